use Rattle.std.proofs.Common.{◌≡◌, take}
use Rattle.amr_box.specs.declared.Cell.{Cell}
use Rattle.amr_def.specs.Regrid.{refilled}
use Rattle.amr_witness.specs.Maps.{masses_of, old_of}
use Rattle.amr_witness_regrid.proofs.masses.refilled.Given as goal

abbrev pub invariant-loop-b : goal.invariant-loop-b
invariant-loop-b l = (q : Cell) → masses_of l.next q ≡ refilled (masses_of l.coarse) (old_of l.old) (take l.b-index l.boxes) q
