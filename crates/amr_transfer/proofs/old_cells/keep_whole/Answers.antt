use Rattle.std.proofs.Common.{◌≡◌, ◌∙◌, ◌+◌, pos, ◌+ℤ◌, IsTrue, sym, ap, subst, arith}
use Rattle.std.proofs.lemmas.Int.{ints}
use Rattle.amr_box.specs.declared.Cell.{Cell}
use Rattle.amr_box.specs.Cells.{Extent, IsNear, cell, holds, width}
use Rattle.amr_patch.specs.Patches.{box, masses_in}
use Rattle.amr_patch.proofs.Rows.{sides}
use Rattle.amr_transfer.specs.Given.{rows_to, span}
use Rattle.amr_transfer.proofs.BoxRows.{row_first}
use Rattle.amr_transfer.proofs.KeptCells.{kept_as, kept_more, kept_none}
use Rattle.amr_transfer.proofs.RowSpans.{rows_all, rows_more, rows_none}
use Rattle.amr_transfer.proofs.old_cells.keep_whole.Goals as goal

pub height-k-end-requires : goal.height-k-end-requires
height-k-end-requires c = subst (λ (b : Extent). IsNear b) (sym c.bx-b.ensures.value) c.bx-b.ensures.near

pub loop-k-init : goal.loop-k-init
loop-k-init c = kept_none (masses_in c.args.old.now) (holds (rows_to c.bx-b.result 0)) c.args.patch.now (λ d h. rows_none c.bx-b.result d)

pub above-requires-clause-from : goal.above-requires-clause-from
above-requires-clause-from c =
    let near = subst (λ (b : Extent). IsNear b) (sym c.bx-b.ensures.value) c.bx-b.ensures.near in
    omega (arith, ints, c.lo.ensures.y, near.south)

pub above-requires-clause-to : goal.above-requires-clause-to
above-requires-clause-to c =
    let near = subst (λ (b : Extent). IsNear b) (sym c.bx-b.ensures.value) c.bx-b.ensures.near in
    omega (arith, ints, c.lo.ensures.y, near.north, near.high)

pub above-requires-clause-small : goal.above-requires-clause-small
above-requires-clause-small c =
    let near = subst (λ (b : Extent). IsNear b) (sym c.bx-b.ensures.value) c.bx-b.ensures.near in
    omega (arith, ints, c.loop-k-test.true, c.height-k-end.ensures.corners, near.south, near.north)

pub keep_row-requires-clause-inside : goal.keep_row-requires-clause-inside
keep_row-requires-clause-inside c =
    let b = c.bx-b.result in
    let near = subst (λ (a : Extent). IsNear a) (sym c.bx-b.ensures.value) c.bx-b.ensures.near in
    let e = c.above.ensures ∙ ap (λ (l : Cell). cell l.x (l.y +ℤ pos c.loop-k.k)) c.lo.ensures.value in
    subst (λ (a : Extent). IsTrue (holds a c.above.result)) (c.bx-b.ensures.value ∙ sym c.loop-k.invariant.given.kept.of_box) (row_first b c.loop-k.k c.height-k-end.result c.above.result near.wide c.height-k-end.ensures.corners c.loop-k-test.true e)

pub loop-k-preserved : goal.loop-k-preserved
loop-k-preserved c =
    let b = c.bx-b.result in
    let near = subst (λ (a : Extent). IsNear a) (sym c.bx-b.ensures.value) c.bx-b.ensures.near in
    let wide = (sides b near).wide in
    let e = c.above.ensures ∙ ap (λ (l : Cell). cell l.x (l.y +ℤ pos c.loop-k.k)) c.lo.ensures.value in
    let low : c.above.result.x ≡ b.lo.x = ap (λ (d : Cell). d.x) e in
    let east = ap (λ (a : Extent). a.hi.x) (c.loop-k.invariant.given.kept.of_box ∙ sym c.bx-b.ensures.value) in
    kept_more (masses_in c.args.old.now) (holds (rows_to b c.loop-k.k)) (holds (span c.above.result (width b))) (holds (rows_to b (c.loop-k.k + 1))) c.args.patch.now c.loop-k.patch c.keep_row.new.patch c.loop-k.invariant
    (c.keep_row.ensures.kept c.if-not-keep_row.false (width b) (omega (arith, ints, wide, low, east)))
    (λ d. rows_more b c.loop-k.k (width b) c.above.result d e wide)

pub returns-clause-kept : goal.returns-clause-kept
returns-clause-kept c _ =
    let b = c.bx-b.result in
    let whole : c.loop-k.k ≡ c.height-k-end.result = omega (arith, c.loop-k.auto.k-end, c.loop-k-test.false) in
    kept_as (masses_in c.args.old.now) (holds (rows_to b c.loop-k.k)) (holds (box c.args.patch.now)) c.args.patch.now c.loop-k.patch
    (λ d h. ap (λ (a : Extent). holds a d) (sym c.bx-b.ensures.value) ∙ rows_all b c.loop-k.k d (omega (arith, ints, whole, c.height-k-end.ensures.corners)))
    c.loop-k.invariant
