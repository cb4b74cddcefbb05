use Rattle.std.proofs.Common.{◌≡◌, false, take}
use Rattle.std.specs.List.{list_any}
use Rattle.amr_witness.specs.Maps.{masses_of, old_of}
use Rattle.amr_witness_regrid.specs.Wanted.{is_wanted_by}
use Rattle.amr_witness_regrid.proofs.wanted.has_wanted.Given as goal

abbrev pub invariant-loop-c : goal.invariant-loop-c
invariant-loop-c l = list_any (is_wanted_by l.p l.here.level (masses_of l.here.masses.now) (old_of l.here.coarse) l.finer) (take l.c-index l.cells) ≡ false
