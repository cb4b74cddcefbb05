use Rattle.std.proofs.Common.{◌≡◌, take}
use Rattle.amr_regrid.proofs.masses.patch_boxes.Given as goal

abbrev pub invariant-loop-b : goal.invariant-loop-b
invariant-loop-b l = l.list ≡ take l.b-index l.boxes
