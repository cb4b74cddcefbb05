use Rattle.std.proofs.Common.{◌≡◌, ◌∙◌, ◌+◌, pos, ◌+ℤ◌, ap, refl, arith}
use Rattle.std.proofs.lemmas.Int.{ints}
use Rattle.amr_box.specs.declared.Cell.{Cell}
use Rattle.amr_box.specs.Cells.{Extent, cell, holds}
use Rattle.amr_patch.specs.Patches.{box, mass_in}
use Rattle.amr_patch.proofs.Rows.{inside}
use Rattle.amr_transfer.specs.Given.{rows_to, span}
use Rattle.amr_transfer.proofs.RowSpans.{rows_all, rows_more, rows_none}
use Rattle.amr_transfer.proofs.BoxRows.{in_both, in_second, row_first, row_last}
use Rattle.amr_transfer.proofs.GivenCells.{given_as, given_more, given_none, still_held}
use Rattle.amr_transfer.proofs.old_cells.keep_common.Goals as goal

pub loop-k-init : goal.loop-k-init
loop-k-init c = given_none (holds (rows_to c.args.common 0)) (mass_in c.args.old.now) c.args.patch.now (λ d h. rows_none c.args.common d)

pub above-requires-clause-from : goal.above-requires-clause-from
above-requires-clause-from c = omega (arith, ints, c.lo.ensures.y, c.requires.near.south)

pub above-requires-clause-to : goal.above-requires-clause-to
above-requires-clause-to c = omega (arith, ints, c.lo.ensures.y, c.requires.near.north, c.requires.near.high)

pub above-requires-clause-small : goal.above-requires-clause-small
above-requires-clause-small c = omega (arith, ints, c.loop-k-test.true, c.height-k-end.ensures.corners, c.requires.near.south, c.requires.near.north)

pub keep_span-requires-clause-of_old : goal.keep_span-requires-clause-of_old
keep_span-requires-clause-of_old c =
    let b = c.args.common in
    let e = c.above.ensures ∙ ap (λ (l : Cell). cell l.x (l.y +ℤ pos c.loop-k.k)) c.lo.ensures.value in
    (in_both (box c.args.patch.now) (box c.args.old.now) b c.above.result c.requires.cells (row_first b c.loop-k.k c.height-k-end.result c.above.result c.requires.near.wide c.height-k-end.ensures.corners c.loop-k-test.true e)).1

pub keep_span-requires-clause-inside : goal.keep_span-requires-clause-inside
keep_span-requires-clause-inside c =
    let b = c.args.common in
    let e = c.above.ensures ∙ ap (λ (l : Cell). cell l.x (l.y +ℤ pos c.loop-k.k)) c.lo.ensures.value in
    still_held c.args.patch.now c.loop-k.patch c.above.result c.loop-k.invariant.kept.of_box
    (in_both (box c.args.patch.now) (box c.args.old.now) b c.above.result c.requires.cells (row_first b c.loop-k.k c.height-k-end.result c.above.result c.requires.near.wide c.height-k-end.ensures.corners c.loop-k-test.true e)).0

pub keep_span-requires-clause-old_room : goal.keep_span-requires-clause-old_room
keep_span-requires-clause-old_room c =
    let b = c.args.common in
    let e = c.above.ensures ∙ ap (λ (l : Cell). cell l.x (l.y +ℤ pos c.loop-k.k)) c.lo.ensures.value in
    let last = in_both (box c.args.patch.now) (box c.args.old.now) b (cell b.hi.x c.above.result.y) c.requires.cells (row_last b c.loop-k.k c.height-k-end.result c.above.result c.requires.near.wide c.height-k-end.ensures.corners c.loop-k-test.true e) in
    let at = inside (box c.args.old.now) (cell b.hi.x c.above.result.y) last.1 in
    omega (arith, ints, at.east, ap (λ (d : Cell). d.x) e, c.width-width.ensures.corners)

pub keep_span-requires-clause-room : goal.keep_span-requires-clause-room
keep_span-requires-clause-room c =
    let b = c.args.common in
    let e = c.above.ensures ∙ ap (λ (l : Cell). cell l.x (l.y +ℤ pos c.loop-k.k)) c.lo.ensures.value in
    let last = in_both (box c.args.patch.now) (box c.args.old.now) b (cell b.hi.x c.above.result.y) c.requires.cells (row_last b c.loop-k.k c.height-k-end.result c.above.result c.requires.near.wide c.height-k-end.ensures.corners c.loop-k-test.true e) in
    let at = inside (box c.args.patch.now) (cell b.hi.x c.above.result.y) last.0 in
    omega (arith, ints, at.east, ap (λ (d : Cell). d.x) e, c.width-width.ensures.corners, ap (λ (x : Extent). x.hi.x) c.loop-k.invariant.kept.of_box)

pub loop-k-preserved : goal.loop-k-preserved
loop-k-preserved c =
    let b = c.args.common in
    let e = c.above.ensures ∙ ap (λ (l : Cell). cell l.x (l.y +ℤ pos c.loop-k.k)) c.lo.ensures.value in
    given_more (holds (rows_to b c.loop-k.k)) (holds (span c.above.result c.width-width.result)) (holds (rows_to b (c.loop-k.k + 1))) (mass_in c.args.old.now) c.args.patch.now c.loop-k.patch c.keep_span.new.patch c.loop-k.invariant c.keep_span.ensures
    (λ d. rows_more b c.loop-k.k c.width-width.result c.above.result d e c.width-width.ensures.corners)

pub returns : goal.returns
returns c =
    let b = c.args.common in
    let whole : c.loop-k.k ≡ c.height-k-end.result = omega (arith, c.loop-k.auto.k-end, c.loop-k-test.false) in
    given_as (holds (rows_to b c.loop-k.k)) (holds (box c.args.old.now)) (mass_in c.args.old.now) (mass_in c.args.old.now) c.args.patch.now c.loop-k.patch
    (λ d h. in_second (box c.args.patch.now) (box c.args.old.now) b d c.requires.cells h ∙ rows_all b c.loop-k.k d (omega (arith, ints, whole, c.height-k-end.ensures.corners)))
    (λ d h on. refl)
    c.loop-k.invariant
