use Rattle.std.proofs.Common.{◌≡◌, false, take}
use Rattle.amr_box.specs.Cells.{in_boxes}
use Rattle.amr_witness_regrid.proofs.cells.in_boxes.Given as goal

abbrev pub invariant-loop-b : goal.invariant-loop-b
invariant-loop-b l = in_boxes (take l.b-index l.boxes) l.c ≡ false
