use Rattle.std.proofs.Common.{◌≡◌, ◌++◌, map}
use Rattle.std.specs.List.{range_with_len}
use Rattle.amr_boxlist.specs.Chopped.{patch_box}
use Rattle.amr_boxlist.proofs.patch_boxes.push_row.Given as goal

abbrev pub invariant-loop-i : goal.invariant-loop-i
invariant-loop-i l = l.patch_boxes.items ≡ l.initial.patch_boxes.items ++ map (λ i. patch_box l.max l.b i l.j) (range_with_len 0 l.i)
