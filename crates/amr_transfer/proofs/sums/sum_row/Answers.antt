use Rattle.std.proofs.Common.{◌≡◌, ◌∙◌, ℕ, ◌+◌, ◌*◌, ◌<◌, ◌^◌, pos, ◌+ℤ◌, sym, ap, subst, arith}
use Rattle.std.proofs.lemmas.Int.{ints}
use Rattle.amr_box.specs.declared.Cell.{Cell}
use Rattle.amr_box.specs.Cells.{cell, child, holds, width}
use Rattle.amr_box.proofs.Numbers.{is_between}
use Rattle.amr_patch.specs.Pairwise.{Pairwise}
use Rattle.amr_patch.specs.Patches.{box, in_patches}
use Rattle.amr_patch.proofs.Rows.{inside, sides}
use Rattle.amr_patch.proofs.Keeping.{kept_apart, kept_order}
use Rattle.amr_transfer.specs.Given.{IsGiven, span}
use Rattle.amr_transfer.specs.Sums.{children_in}
use Rattle.amr_transfer.proofs.Fours.{four_of_first, four_of_rest, rest_length, row_child}
use Rattle.amr_transfer.proofs.Halves.{parent_child}
use Rattle.amr_transfer.proofs.PatchLists.{all_kept, all_more, all_none, kept_in}
use Rattle.amr_transfer.proofs.RowSpans.{span_more, span_none}
use Rattle.amr_transfer.proofs.sums.sum_row.Goals as goal

pub children_row-lower-requires-clause-from : goal.children_row-lower-requires-clause-from
children_row-lower-requires-clause-from c = let at = inside (box c.args.fine.now) (child c.args.c 0) c.requires.row in omega (arith, ints, at.south, c.args.fine.now.near.south)

pub children_row-lower-requires-clause-to : goal.children_row-lower-requires-clause-to
children_row-lower-requires-clause-to c = let at = inside (box c.args.fine.now) (child c.args.c 0) c.requires.row in omega (arith, ints, at.north, c.args.fine.now.near.north)

pub children_row-lower-requires-clause-there : goal.children_row-lower-requires-clause-there
children_row-lower-requires-clause-there c = let at = inside (box c.args.fine.now) (child c.args.c 0) c.requires.row in is_between _ _ _ at.south at.north

pub children_row-upper-requires-clause-from : goal.children_row-upper-requires-clause-from
children_row-upper-requires-clause-from c = let at = inside (box c.args.fine.now) (child c.args.c 0) c.requires.row in omega (arith, ints, at.south, c.args.fine.now.near.south)

pub children_row-upper-requires-clause-to : goal.children_row-upper-requires-clause-to
children_row-upper-requires-clause-to c = let at = inside (box c.args.fine.now) (child c.args.c 0) c.requires.row in omega (arith, ints, at.north, c.args.fine.now.near.north)

pub children_row-upper-requires-clause-there : goal.children_row-upper-requires-clause-there
children_row-upper-requires-clause-there c =
    let four = four_of_first c.args.fine.now c.args.c c.requires.aligned c.requires.row in
    let at = inside (box c.args.fine.now) (child c.args.c 2) four.third in
    is_between _ _ _ at.south at.north

pub loop-done-init : goal.loop-done-init
loop-done-init c = record {
  within = omega arith;
  given = all_none (holds (span c.args.c 0)) (children_in c.args.fine.now) c.args.patches.now (λ d. span_none c.args.c d);
}

pub ahead-requires-clause-from : goal.ahead-requires-clause-from
ahead-requires-clause-from c = omega (arith, ints, c.requires.low, c.args.fine.now.near.west)

pub ahead-requires-clause-to : goal.ahead-requires-clause-to
ahead-requires-clause-to c = omega (arith, ints, c.requires.low, c.args.fine.now.near.wide, c.args.fine.now.near.east)

pub ahead-requires-clause-small : goal.ahead-requires-clause-small
ahead-requires-clause-small c = let s = sides (box c.args.fine.now) c.args.fine.now.near in omega (arith, c.loop-done-test.true, c.children_row-lower.ensures.count, s.narrow)

pub overflow_cast-done : goal.overflow_cast-done
overflow_cast-done c = let s = sides (box c.args.fine.now) c.args.fine.now.near in omega (arith, c.loop-done-test.true, c.children_row-lower.ensures.count, s.narrow)

pub slice_bounds-rest-count-in-loop-done : goal.slice_bounds-rest-count-in-loop-done
slice_bounds-rest-count-in-loop-done c = omega (arith, c.loop-done-test.true, c.children_row-lower.ensures.count, c.children_row-upper.ensures.count)

pub slice_bounds-rest-start-in-loop-done : goal.slice_bounds-rest-start-in-loop-done
slice_bounds-rest-start-in-loop-done c = omega (arith, c.loop-done-test.true, c.children_row-lower.ensures.count, c.children_row-upper.ensures.count)

pub sum_span-done-requires-clause-order : goal.sum_span-done-requires-clause-order
sum_span-done-requires-clause-order c = kept_order c.args.order c.args.patches.now c.loop-done.patches (all_kept (holds (span c.args.c c.loop-done.done)) (children_in c.args.fine.now) c.args.patches.now c.loop-done.patches c.loop-done.invariant.given) c.requires.order

pub sum_span-done-requires-clause-apart : goal.sum_span-done-requires-clause-apart
sum_span-done-requires-clause-apart c = kept_apart c.args.patches.now c.loop-done.patches (all_kept (holds (span c.args.c c.loop-done.done)) (children_in c.args.fine.now) c.args.patches.now c.loop-done.patches c.loop-done.invariant.given) c.requires.apart

pub sum_span-done-requires-clause-there : goal.sum_span-done-requires-clause-there
sum_span-done-requires-clause-there c =
    let f = c.args.fine.now in
    let done = c.loop-done.done in
    let s = sides (box f) f.near in
    let here = row_child (box f) c.args.c done (width (box f)) c.requires.low c.requires.row s.wide (omega (arith, c.loop-done-test.true, c.children_row-lower.ensures.count)) in
    let e = cell (c.args.c.x +ℤ pos done) c.args.c.y in
    kept_in c.args.patches.now c.loop-done.patches c.ahead.result (all_kept (holds (span c.args.c done)) (children_in f) c.args.patches.now c.loop-done.patches c.loop-done.invariant.given)
    ∙ ap (in_patches c.args.patches.now) (c.ahead.ensures ∙ sym (parent_child e 0 0 (omega arith) (omega arith)))
    ∙ c.requires.parents (child e 0) here

pub sum_span-done-requires-clause-some : goal.sum_span-done-requires-clause-some
sum_span-done-requires-clause-some c = omega (arith, rest_length c.children_row-lower.result.now (2 * c.loop-done.done), c.loop-done-test.true)

pub sum_span-done-requires-clause-same : goal.sum_span-done-requires-clause-same
sum_span-done-requires-clause-same c = omega (arith, rest_length c.children_row-lower.result.now (2 * c.loop-done.done), rest_length c.children_row-upper.result.now (2 * c.loop-done.done), c.children_row-lower.ensures.count, c.children_row-upper.ensures.count)

pub sum_span-done-requires-clause-fits : goal.sum_span-done-requires-clause-fits
sum_span-done-requires-clause-fits c k lt =
    let f = c.args.fine.now in
    let done = c.loop-done.done in
    let s = sides (box f) f.near in
    let is = four_of_rest f c.args.c c.ahead.result c.children_row-lower.result.now c.children_row-upper.result.now done k c.requires.low c.children_row-lower.ensures c.children_row-upper.ensures c.ahead.ensures lt in
    let e = cell (c.args.c.x +ℤ pos (done + k)) c.args.c.y in
    let here = row_child (box f) c.args.c (done + k) (width (box f)) c.requires.low c.requires.row s.wide (omega (arith, lt, rest_length c.children_row-lower.result.now (2 * done), c.children_row-lower.ensures.count)) in
    let same : cell (c.ahead.result.x +ℤ pos k) c.ahead.result.y ≡ e = ap (λ (d : Cell). cell (d.x +ℤ pos k) d.y) c.ahead.ensures ∙ (let x : c.args.c.x +ℤ pos done +ℤ pos k ≡ c.args.c.x +ℤ pos (done + k) = omega (arith, ints) in λ i. cell (x i) c.args.c.y) in
    subst (λ (m : ℕ). m < 2 ^ 32) (sym (is ∙ ap (children_in f) same)) (c.requires.small e here)

pub loop-done-preserved : goal.loop-done-preserved
loop-done-preserved c =
    let f = c.args.fine.now in
    let done = c.loop-done.done in
    let n = c.sum_span-done.result in
    record {
      within = omega (arith, c.sum_span-done.ensures.within, rest_length c.children_row-lower.result.now (2 * done));
      given = all_more (holds (span c.args.c done)) (holds (span c.ahead.result n)) (holds (span c.args.c (done + n))) (children_in f) c.args.patches.now c.loop-done.patches c.sum_span-done.new.patches c.loop-done.invariant.given
          (c.sum_span-done.ensures.given (children_in f) (λ k lt. four_of_rest f c.args.c c.ahead.result c.children_row-lower.result.now c.children_row-upper.result.now done k c.requires.low c.children_row-lower.ensures c.children_row-upper.ensures c.ahead.ensures lt))
          (λ d. span_more c.args.c c.ahead.result d done n c.ahead.ensures);
    }

pub returns : goal.returns
returns c n e =
    let all : c.loop-done.done ≡ n = omega (arith, c.loop-done-test.false, c.loop-done.invariant.within, c.children_row-lower.ensures.count, e) in
    subst (λ (m : ℕ). Pairwise (IsGiven (holds (span c.args.c m)) (children_in c.args.fine.now)) c.args.patches.now c.loop-done.patches) all c.loop-done.invariant.given
