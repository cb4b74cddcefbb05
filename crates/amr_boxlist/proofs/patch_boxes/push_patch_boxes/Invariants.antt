use Rattle.std.proofs.Common.{◌≡◌, ◌++◌}
use Rattle.std.specs.List.{flat_map, range_with_len}
use Rattle.amr_boxlist.specs.Chopped.{patch_box_row}
use Rattle.amr_boxlist.proofs.patch_boxes.push_patch_boxes.Given as goal

abbrev pub invariant-loop-j : goal.invariant-loop-j
invariant-loop-j l = l.patch_boxes.items ≡ l.initial.patch_boxes.items ++ flat_map (patch_box_row l.max l.b) (range_with_len 0 l.j)
