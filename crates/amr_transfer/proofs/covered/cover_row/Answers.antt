use Rattle.std.proofs.Common.{◌≡◌, ◌∙◌, ◌+◌, ◌≤◌, length, sym, ap, subst, arith}
use Rattle.std.specs.Prelude.{IsTrue}
use Rattle.std.proofs.lemmas.Int.{ints}
use Rattle.std.proofs.lemmas.List.{length-take-le}
use Rattle.amr_box.specs.declared.Cell.{Cell}
use Rattle.amr_box.specs.Cells.{Extent, child, holds}
use Rattle.amr_patch.specs.Patches.{box}
use Rattle.amr_patch.proofs.Rows.{inside}
use Rattle.amr_transfer.specs.Given.{IsGiven, span}
use Rattle.amr_transfer.specs.Sums.{children_in}
use Rattle.amr_transfer.proofs.Covers.{cell_ahead, child_ahead}
use Rattle.amr_transfer.proofs.GivenCells.{given_more, given_none}
use Rattle.amr_transfer.proofs.RowSpans.{span_more, span_none}
use Rattle.amr_transfer.proofs.covered.cover_row.Goals as goal

pub loop-done-init : goal.loop-done-init
loop-done-init c = record {
  within = omega arith;
  given = given_none (holds (span c.args.c 0)) (children_in c.args.fine.now) c.args.patch.now (λ d h. span_none c.args.c d);
}

pub overflow_cast-done : goal.overflow_cast-done
overflow_cast-done c = let i = inside (box c.args.fine.now) (child c.args.c 0) c.requires.children in omega (arith, ints, c.loop-done-test.true, c.requires.fine_room, i.west, c.args.fine.now.near.west, c.args.fine.now.near.east)

pub ahead-requires-clause-from : goal.ahead-requires-clause-from
ahead-requires-clause-from c = let i = inside (box c.args.fine.now) (child c.args.c 0) c.requires.children in omega (arith, ints, i.west, c.args.fine.now.near.west)

pub ahead-requires-clause-to : goal.ahead-requires-clause-to
ahead-requires-clause-to c = let i = inside (box c.args.fine.now) (child c.args.c 0) c.requires.children in omega (arith, ints, i.east, c.args.fine.now.near.east)

pub ahead-requires-clause-small : goal.ahead-requires-clause-small
ahead-requires-clause-small c = let i = inside (box c.args.fine.now) (child c.args.c 0) c.requires.children in omega (arith, ints, c.loop-done-test.true, c.requires.fine_room, i.west, c.args.fine.now.near.west, c.args.fine.now.near.east)

pub slice_bounds-cover_span-end : goal.slice_bounds-cover_span-end
slice_bounds-cover_span-end c = omega (arith, c.min-many.ensures)

pub cover_span-requires-clause-children : goal.cover_span-requires-clause-children
cover_span-requires-clause-children c =
    let f = box c.args.fine.now in
    ap (λ (d : Cell). holds f (child d 0)) c.ahead.ensures ∙ child_ahead f c.args.c c.loop-done.done c.args.count c.requires.children c.requires.fine_room c.loop-done-test.true

pub cover_span-requires-clause-fine_room : goal.cover_span-requires-clause-fine_room
cover_span-requires-clause-fine_room c =
    let few : c.min-many.result ≤ length c.loop-done.room = omega (arith, c.min-many.ensures) in
    omega (arith, ints, c.requires.fine_room, c.min-many.ensures, c.loop-done.invariant.within, length-take-le c.min-many.result c.loop-done.room few, ap (λ (d : Cell). d.x) c.ahead.ensures)

pub cover_span-requires-clause-inside : goal.cover_span-requires-clause-inside
cover_span-requires-clause-inside c =
    subst (λ (b : Extent). IsTrue (holds b c.ahead.result)) (sym c.loop-done.invariant.given.kept.of_box)
    (cell_ahead (box c.args.patch.now) c.args.c c.ahead.result c.loop-done.done c.args.count c.requires.inside c.requires.patch_room c.loop-done-test.true c.ahead.ensures)

pub cover_span-requires-clause-patch_room : goal.cover_span-requires-clause-patch_room
cover_span-requires-clause-patch_room c =
    let few : c.min-many.result ≤ length c.loop-done.room = omega (arith, c.min-many.ensures) in
    omega (arith, ints, c.requires.patch_room, c.min-many.ensures, c.loop-done.invariant.within, length-take-le c.min-many.result c.loop-done.room few, ap (λ (d : Cell). d.x) c.ahead.ensures, ap (λ (b : Extent). b.hi.x) c.loop-done.invariant.given.kept.of_box)

pub loop-done-preserved : goal.loop-done-preserved
loop-done-preserved c =
    let m = children_in c.args.fine.now in
    let done = c.loop-done.done in
    let many = c.min-many.result in
    let few : many ≤ length c.loop-done.room = omega (arith, c.min-many.ensures) in
    record {
      within = omega (arith, c.min-many.ensures, c.loop-done.invariant.within);
      given = given_more (holds (span c.args.c done)) (holds (span c.ahead.result many)) (holds (span c.args.c (done + many))) m c.args.patch.now c.loop-done.patch c.cover_span.new.patch c.loop-done.invariant.given
          (subst (λ k. IsGiven (holds (span c.ahead.result k)) m c.loop-done.patch c.cover_span.new.patch) (length-take-le many c.loop-done.room few) c.cover_span.ensures)
          (λ d. span_more c.args.c c.ahead.result d done many c.ahead.ensures);
    }

pub returns : goal.returns
returns c =
    let all : c.loop-done.done ≡ c.args.count = omega (arith, c.loop-done-test.false, c.loop-done.invariant.within) in
    subst (λ k. IsGiven (holds (span c.args.c k)) (children_in c.args.fine.now) c.args.patch.now c.loop-done.patch) all c.loop-done.invariant.given
