use Rattle.std.proofs.Common.{◌≡◌, ◌∙◌, ◌+◌, pos, ◌+ℤ◌, refl, sym, ap, subst, arith}
use Rattle.std.proofs.lemmas.Int.{ints}
use Rattle.amr_box.specs.declared.Cell.{Cell}
use Rattle.amr_box.specs.Cells.{Extent, HasCorners, IsBoxOf, cell, half, has_child_where, holds, width}
use Rattle.amr_def.proofs.Nesting.{aligned_even}
use Rattle.amr_def.proofs.Nests.{even_is, odd_is}
use Rattle.amr_patch.specs.Patches.{box}
use Rattle.amr_patch.proofs.Rows.{sides}
use Rattle.amr_patch.proofs.Keeping.{kept_apart, kept_order}
use Rattle.amr_transfer.specs.Given.{rows_to, span}
use Rattle.amr_transfer.specs.Sums.{children_in}
use Rattle.amr_transfer.proofs.BoxRows.{row_first}
use Rattle.amr_transfer.proofs.Fours.{has_four}
use Rattle.amr_transfer.proofs.Halves.{near_parents}
use Rattle.amr_transfer.proofs.PatchLists.{all_as, all_kept, all_more, all_none, kept_in}
use Rattle.amr_transfer.proofs.RowSpans.{rows_all, rows_more, rows_none}
use Rattle.amr_transfer.proofs.sums.sum_patch.Goals as goal

pub height-k-end-requires : goal.height-k-end-requires
height-k-end-requires c = near_parents (box c.args.fine.now) c.bx.result c.coarsen2-b.result c.bx.ensures.value c.args.fine.now.near c.coarsen2-b.ensures.corners

pub loop-k-init : goal.loop-k-init
loop-k-init c = all_none (holds (rows_to c.coarsen2-b.result 0)) (children_in c.args.fine.now) c.args.patches.now (λ d. rows_none c.coarsen2-b.result d)

pub above-requires-clause-from : goal.above-requires-clause-from
above-requires-clause-from c = let near = near_parents (box c.args.fine.now) c.bx.result c.coarsen2-b.result c.bx.ensures.value c.args.fine.now.near c.coarsen2-b.ensures.corners in omega (arith, ints, c.lo.ensures.y, near.south)

pub above-requires-clause-to : goal.above-requires-clause-to
above-requires-clause-to c = let near = near_parents (box c.args.fine.now) c.bx.result c.coarsen2-b.result c.bx.ensures.value c.args.fine.now.near c.coarsen2-b.ensures.corners in omega (arith, ints, c.lo.ensures.y, near.north, near.high)

pub above-requires-clause-small : goal.above-requires-clause-small
above-requires-clause-small c = let near = near_parents (box c.args.fine.now) c.bx.result c.coarsen2-b.result c.bx.ensures.value c.args.fine.now.near c.coarsen2-b.ensures.corners in omega (arith, ints, c.loop-k-test.true, c.height-k-end.ensures.corners, near.south, near.north)

pub sum_row-requires-clause-order : goal.sum_row-requires-clause-order
sum_row-requires-clause-order c = kept_order c.args.order c.args.patches.now c.loop-k.patches (all_kept (holds (rows_to c.coarsen2-b.result c.loop-k.k)) (children_in c.args.fine.now) c.args.patches.now c.loop-k.patches c.loop-k.invariant) c.requires.order

pub sum_row-requires-clause-apart : goal.sum_row-requires-clause-apart
sum_row-requires-clause-apart c = kept_apart c.args.patches.now c.loop-k.patches (all_kept (holds (rows_to c.coarsen2-b.result c.loop-k.k)) (children_in c.args.fine.now) c.args.patches.now c.loop-k.patches c.loop-k.invariant) c.requires.apart

pub sum_row-requires-clause-low : goal.sum_row-requires-clause-low
sum_row-requires-clause-low c =
    let b = box c.args.fine.now in
    let corners = subst (λ (a : Extent). HasCorners c.coarsen2-b.result (half a.lo.x) (half a.lo.y) (half a.hi.x) (half a.hi.y)) c.bx.ensures.value c.coarsen2-b.ensures.corners in
    let e = c.above.ensures ∙ ap (λ (l : Cell). cell l.x (l.y +ℤ pos c.loop-k.k)) c.lo.ensures.value in
    let low : c.above.result.x ≡ half b.lo.x = ap (λ (d : Cell). d.x) e ∙ corners.west_is in
    (λ i. low i +ℤ low i) ∙ sym (even_is b.lo.x (aligned_even 2 b refl c.requires.aligned).0)

pub sum_row-requires-clause-row : goal.sum_row-requires-clause-row
sum_row-requires-clause-row c =
    let near = near_parents (box c.args.fine.now) c.bx.result c.coarsen2-b.result c.bx.ensures.value c.args.fine.now.near c.coarsen2-b.ensures.corners in
    let e = c.above.ensures ∙ ap (λ (l : Cell). cell l.x (l.y +ℤ pos c.loop-k.k)) c.lo.ensures.value in
    let cells = subst (λ (a : Extent). IsBoxOf c.coarsen2-b.result (has_child_where (holds a))) c.bx.ensures.value c.coarsen2-b.ensures.cells in
    let first = row_first c.coarsen2-b.result c.loop-k.k c.height-k-end.result c.above.result near.wide c.height-k-end.ensures.corners c.loop-k-test.true e in
    (has_four c.args.fine.now c.above.result c.requires.aligned (sym (cells.at c.above.result) ∙ first)).first

pub sum_row-requires-clause-parents : goal.sum_row-requires-clause-parents
sum_row-requires-clause-parents c d h =
    kept_in c.args.patches.now c.loop-k.patches _ (all_kept (holds (rows_to c.coarsen2-b.result c.loop-k.k)) (children_in c.args.fine.now) c.args.patches.now c.loop-k.patches c.loop-k.invariant) ∙ c.requires.parents d h

pub loop-k-preserved : goal.loop-k-preserved
loop-k-preserved c =
    let f = box c.args.fine.now in
    let b = c.coarsen2-b.result in
    let near = near_parents (box c.args.fine.now) c.bx.result c.coarsen2-b.result c.bx.ensures.value c.args.fine.now.near c.coarsen2-b.ensures.corners in
    let corners = subst (λ (a : Extent). HasCorners b (half a.lo.x) (half a.lo.y) (half a.hi.x) (half a.hi.y)) c.bx.ensures.value c.coarsen2-b.ensures.corners in
    let even = aligned_even 2 f refl c.requires.aligned in
    let west = even_is f.lo.x even.0 in
    let east = odd_is f.hi.x even.2 in
    let wide = (sides b near).wide in
    let whole = (sides f c.args.fine.now.near).wide in
    let e = c.above.ensures ∙ ap (λ (l : Cell). cell l.x (l.y +ℤ pos c.loop-k.k)) c.lo.ensures.value in
    all_more (holds (rows_to b c.loop-k.k)) (holds (span c.above.result (width b))) (holds (rows_to b (c.loop-k.k + 1))) (children_in c.args.fine.now) c.args.patches.now c.loop-k.patches c.sum_row.new.patches c.loop-k.invariant
    (c.sum_row.ensures (width b) (omega (arith, ints, wide, whole, west, east, corners.west_is, corners.east_is)))
    (λ d. rows_more b c.loop-k.k (width b) c.above.result d e wide)

pub returns : goal.returns
returns c =
    let b = c.coarsen2-b.result in
    let m = children_in c.args.fine.now in
    let cells = subst (λ (a : Extent). IsBoxOf b (has_child_where (holds a))) c.bx.ensures.value c.coarsen2-b.ensures.cells in
    let whole : c.loop-k.k ≡ c.height-k-end.result = omega (arith, c.loop-k.auto.k-end, c.loop-k-test.false) in
    all_as (holds (rows_to b c.loop-k.k)) (has_child_where (holds (box c.args.fine.now))) m m c.args.patches.now c.loop-k.patches
    (λ d. sym (cells.at d) ∙ rows_all b c.loop-k.k d (omega (arith, ints, whole, c.height-k-end.ensures.corners)))
    (λ d on. refl)
    c.loop-k.invariant
