use Rattle.std.proofs.Common.{◌≡◌, take}
use Rattle.std.specs.List.{flat_map}
use Rattle.amr_boxlist.specs.Chopped.{chopped}
use Rattle.amr_boxlist.proofs.patch_boxes.chop_all.Given as goal

abbrev pub invariant-loop-b : goal.invariant-loop-b
invariant-loop-b l = l.patch_boxes.items ≡ flat_map (chopped l.max) (take l.b-index l.boxes)
