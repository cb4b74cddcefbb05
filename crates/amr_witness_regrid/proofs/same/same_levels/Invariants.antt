use Rattle.std.proofs.Common.{◌≡◌, take}
use Rattle.amr_witness.specs.Maps.{levels_of}
use Rattle.amr_witness_regrid.proofs.same.same_levels.Given as goal

abbrev pub invariant-loop-k : goal.invariant-loop-k
invariant-loop-k l = levels_of (take l.k l.a) ≡ levels_of (take l.k l.b)
