use Rattle.std.proofs.Common.{◌≡◌, ◌∙◌, ◌+◌, pos, ◌+ℤ◌, refl, sym, ap, subst, arith, IsTrue}
use Rattle.std.proofs.lemmas.Int.{ints}
use Rattle.amr_box.specs.declared.Cell.{Cell}
use Rattle.amr_box.specs.Cells.{Extent, cell, holds}
use Rattle.amr_patch.specs.Patches.{box}
use Rattle.amr_patch.proofs.Rows.{inside}
use Rattle.amr_transfer.specs.Given.{rows_to, span}
use Rattle.amr_transfer.specs.Sums.{children_in}
use Rattle.amr_transfer.proofs.BoxRows.{row_first, row_last}
use Rattle.amr_transfer.proofs.Covers.{last_children}
use Rattle.amr_transfer.proofs.GivenCells.{given_as, given_more, given_none}
use Rattle.amr_transfer.proofs.RowSpans.{rows_all, rows_more, rows_none}
use Rattle.amr_transfer.proofs.covered.cover_box.Goals as goal

pub loop-k-init : goal.loop-k-init
loop-k-init c = given_none (holds (rows_to c.args.b.now 0)) (children_in c.args.fine.now) c.args.patch.now (λ d h. rows_none c.args.b.now d)

pub above-requires-clause-from : goal.above-requires-clause-from
above-requires-clause-from c = omega (arith, ints, c.lo.ensures.y, c.requires.near.south)

pub above-requires-clause-to : goal.above-requires-clause-to
above-requires-clause-to c = omega (arith, ints, c.lo.ensures.y, c.requires.near.north, c.requires.near.high)

pub above-requires-clause-small : goal.above-requires-clause-small
above-requires-clause-small c = omega (arith, ints, c.loop-k-test.true, c.height-k-end.ensures.corners, c.requires.near.south, c.requires.near.north)

pub cover_row-requires-clause-children : goal.cover_row-requires-clause-children
cover_row-requires-clause-children c =
    let b = c.args.b.now in
    let e = c.above.ensures ∙ ap (λ (l : Cell). cell l.x (l.y +ℤ pos c.loop-k.k)) c.lo.ensures.value in
    c.requires.children c.above.result (row_first b c.loop-k.k c.height-k-end.result c.above.result c.requires.near.wide c.height-k-end.ensures.corners c.loop-k-test.true e)

pub cover_row-requires-clause-fine_room : goal.cover_row-requires-clause-fine_room
cover_row-requires-clause-fine_room c =
    let b = c.args.b.now in
    let e = c.above.ensures ∙ ap (λ (l : Cell). cell l.x (l.y +ℤ pos c.loop-k.k)) c.lo.ensures.value in
    let last = c.requires.children (cell b.hi.x c.above.result.y) (row_last b c.loop-k.k c.height-k-end.result c.above.result c.requires.near.wide c.height-k-end.ensures.corners c.loop-k-test.true e) in
    omega (arith, ints, last_children c.args.fine.now (cell b.hi.x c.above.result.y) c.requires.aligned last, ap (λ (d : Cell). d.x) e, c.width-count.ensures.corners)

pub cover_row-requires-clause-inside : goal.cover_row-requires-clause-inside
cover_row-requires-clause-inside c =
    let b = c.args.b.now in
    let e = c.above.ensures ∙ ap (λ (l : Cell). cell l.x (l.y +ℤ pos c.loop-k.k)) c.lo.ensures.value in
    subst (λ (a : Extent). IsTrue (holds a c.above.result)) (sym c.loop-k.invariant.kept.of_box)
    (c.requires.inside c.above.result (row_first b c.loop-k.k c.height-k-end.result c.above.result c.requires.near.wide c.height-k-end.ensures.corners c.loop-k-test.true e))

pub cover_row-requires-clause-patch_room : goal.cover_row-requires-clause-patch_room
cover_row-requires-clause-patch_room c =
    let b = c.args.b.now in
    let e = c.above.ensures ∙ ap (λ (l : Cell). cell l.x (l.y +ℤ pos c.loop-k.k)) c.lo.ensures.value in
    let last = c.requires.inside (cell b.hi.x c.above.result.y) (row_last b c.loop-k.k c.height-k-end.result c.above.result c.requires.near.wide c.height-k-end.ensures.corners c.loop-k-test.true e) in
    let at = inside (box c.args.patch.now) (cell b.hi.x c.above.result.y) last in
    omega (arith, ints, at.east, ap (λ (d : Cell). d.x) e, c.width-count.ensures.corners, ap (λ (a : Extent). a.hi.x) c.loop-k.invariant.kept.of_box)

pub loop-k-preserved : goal.loop-k-preserved
loop-k-preserved c =
    let b = c.args.b.now in
    let k = c.loop-k.k in
    let w = c.width-count.result in
    let e = c.above.ensures ∙ ap (λ (l : Cell). cell l.x (l.y +ℤ pos k)) c.lo.ensures.value in
    given_more (holds (rows_to b k)) (holds (span c.above.result w)) (holds (rows_to b (k + 1))) (children_in c.args.fine.now) c.args.patch.now c.loop-k.patch c.cover_row.new.patch c.loop-k.invariant c.cover_row.ensures
    (λ d. rows_more b k w c.above.result d e c.width-count.ensures.corners)

pub returns : goal.returns
returns c =
    let b = c.args.b.now in
    let m = children_in c.args.fine.now in
    let whole : c.loop-k.k ≡ c.height-k-end.result = omega (arith, c.loop-k.auto.k-end, c.loop-k-test.false) in
    given_as (holds (rows_to b c.loop-k.k)) (holds b) m m c.args.patch.now c.loop-k.patch
    (λ d h. rows_all b c.loop-k.k d (omega (arith, ints, whole, c.height-k-end.ensures.corners)))
    (λ d h on. refl)
    c.loop-k.invariant
