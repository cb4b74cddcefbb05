use Rattle.std.proofs.Common.{◌≡◌, ◌∙◌, ◌++◌, pos, ◌+ℤ◌, ◌-ℤ◌, ap, arith}
use mir.Val.{to_z, of_z}
use mir.Syntax.{w32}
use Rattle.std.specs.List.{flat_map, range_with_len}
use Rattle.std.proofs.lemmas.Int.{ints}
use Rattle.amr_box.specs.Cells.{at_least_zero}
use Rattle.amr_boxlist.specs.Chopped.{patch_box_count, patch_box_row}
use Rattle.amr_boxlist.proofs.PatchBoxes.{rows_more}
use Rattle.amr_boxlist.proofs.patch_boxes.push_patch_boxes.Goals as goal

pub push_row-requires-clause-there : goal.push_row-requires-clause-there
push_row-requires-clause-there c = omega (arith, ints, c.count-rows.ensures.within c.loop-j.j c.loop-j-test.true)

pub loop-j-preserved : goal.loop-j-preserved
loop-j-preserved c = rows_more (patch_box_row c.args.max c.args.b.now) c.loop-j.j c.args.patch_boxes.now.items c.loop-j.patch_boxes.items _ c.loop-j.invariant c.in_ok-push_row.ensures

pub returns : goal.returns
returns c =
    let all : c.loop-j.j ≡ c.count-rows.result = omega arith in
    let side : (to_z w32 (of_z w32 c.hi.result.y) +ℤ pos 1 -ℤ to_z w32 (of_z w32 c.lo.result.y)) ≡ (c.args.b.now.hi.y +ℤ pos 1 -ℤ c.args.b.now.lo.y) = omega (arith, ints) in
    c.loop-j.invariant
    ∙ ap (λ m. c.args.patch_boxes.now.items ++ flat_map (patch_box_row c.args.max c.args.b.now) (range_with_len 0 m))
    (all ∙ c.count-rows.ensures.value ∙ ap (λ z. patch_box_count c.args.max (at_least_zero z)) side)
