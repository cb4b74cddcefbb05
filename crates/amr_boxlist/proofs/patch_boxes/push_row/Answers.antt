use Rattle.std.proofs.Common.{◌≡◌, ◌∙◌, ◌++◌, pos, ◌+ℤ◌, ◌-ℤ◌, ap, arith, map}
use mir.Val.{to_z, of_z}
use mir.Syntax.{w32}
use Rattle.std.specs.List.{range_with_len}
use Rattle.std.proofs.lemmas.Int.{ints}
use Rattle.amr_box.specs.Cells.{at_least_zero}
use Rattle.amr_boxlist.specs.Chopped.{patch_box, patch_box_count}
use Rattle.amr_boxlist.proofs.PatchBoxes.{patch_box_is, row_more, span_end}
use Rattle.amr_boxlist.proofs.patch_boxes.push_row.Goals as goal

pub span-west-requires-clause-there : goal.span-west-requires-clause-there
span-west-requires-clause-there c = omega (arith, ints, c.count-columns.ensures.within c.loop-i.i c.loop-i-test.true)

pub unwrap-requires : goal.unwrap-requires
unwrap-requires c = c.try_new.ensures.proper.1 (omega (arith, ints, c.span-west.ensures.in_order), omega (arith, ints, c.span-south.ensures.in_order))

pub loop-i-preserved : goal.loop-i-preserved
loop-i-preserved c =
    let is = rw c.unwrap.ensures at c.try_new.ensures.some in
    c.in_ok-push.ensures.items
    ∙ row_more c.args.max c.args.b.now c.unwrap.result c.loop-i.i c.args.j c.args.patch_boxes.now.items c.loop-i.patch_boxes.items c.loop-i.invariant
    (patch_box_is c.args.max c.args.b.now c.unwrap.result c.loop-i.i c.args.j _ _ is
    (omega (arith, ints, c.span-west.ensures.from))
    (span_end c.args.max c.loop-i.i c.span-west.result.1 (to_z w32 (of_z w32 c.lo-in-loop-i.result.x)) (to_z w32 (of_z w32 c.hi-in-loop-i.result.x)) c.args.b.now.lo.x c.args.b.now.hi.x _ (omega (arith, ints)) c.span-west.ensures.to (omega (arith, ints)) (omega (arith, ints)))
    (omega (arith, ints, c.span-south.ensures.from))
    (span_end c.args.max c.args.j c.span-south.result.1 (to_z w32 (of_z w32 c.lo-2.result.y)) (to_z w32 (of_z w32 c.hi-2.result.y)) c.args.b.now.lo.y c.args.b.now.hi.y _ (omega (arith, ints)) c.span-south.ensures.to (omega (arith, ints)) (omega (arith, ints))))

pub returns : goal.returns
returns c =
    let all : c.loop-i.i ≡ c.count-columns.result = omega arith in
    let side : (to_z w32 (of_z w32 c.hi.result.x) +ℤ pos 1 -ℤ to_z w32 (of_z w32 c.lo.result.x)) ≡ (c.args.b.now.hi.x +ℤ pos 1 -ℤ c.args.b.now.lo.x) = omega (arith, ints) in
    c.loop-i.invariant
    ∙ ap (λ m. c.args.patch_boxes.now.items ++ map (λ i. patch_box c.args.max c.args.b.now i c.args.j) (range_with_len 0 m))
    (all ∙ c.count-columns.ensures.value ∙ ap (λ z. patch_box_count c.args.max (at_least_zero z)) side)
