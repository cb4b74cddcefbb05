use Rattle.std.proofs.Common.{◌≡◌, ◌∙◌, ◌+◌, pos, ◌+ℤ◌, ◌-ℤ◌, IsTrue, sym, ap, subst, arith}
use Rattle.std.specs.Prelude.{ℕ}
use Rattle.std.proofs.lemmas.Int.{ints}
use Rattle.amr_box.specs.declared.Cell.{Cell}
use Rattle.amr_box.specs.Cells.{Extent, IsNear, holds}
use Rattle.amr_def.specs.Regrid.{split_mass}
use Rattle.amr_patch.specs.Levels.{level_of}
use Rattle.amr_patch.specs.Patches.{box}
use Rattle.amr_patch.proofs.Rows.{inside}
use Rattle.amr_transfer.specs.Given.{IsGiven, span}
use Rattle.amr_transfer.proofs.BoxRows.{ahead_held}
use Rattle.amr_transfer.proofs.GivenCells.{given_more, given_none, still_held}
use Rattle.amr_transfer.proofs.RowSpans.{span_more, span_none}
use Rattle.amr_transfer.proofs.new_masses.split_row.Goals as goal

pub cells_from-width-requires-clause-near : goal.cells_from-width-requires-clause-near
cells_from-width-requires-clause-near c = subst (λ (b : Extent). IsNear b) (sym c.bx.ensures.value) c.bx.ensures.near

pub cells_from-width-requires-clause-inside : goal.cells_from-width-requires-clause-inside
cells_from-width-requires-clause-inside c = subst (λ (b : Extent). IsTrue (holds b c.args.low)) (sym c.bx.ensures.value) c.requires.inside

pub loop-done-init : goal.loop-done-init
loop-done-init c = record {
  within = omega arith;
  given = given_none (holds (span c.args.low 0)) (split_mass (level_of c.args.coarse.now).masses) c.args.patch.now (λ d h. span_none c.args.low d);
}

pub ahead-requires-clause-from : goal.ahead-requires-clause-from
ahead-requires-clause-from c =
    let at = inside (box c.args.patch.now) c.args.low c.requires.inside in
    omega (arith, ints, at.west, c.bx.ensures.near.west)

pub ahead-requires-clause-to : goal.ahead-requires-clause-to
ahead-requires-clause-to c =
    let at = inside (box c.args.patch.now) c.args.low c.requires.inside in
    omega (arith, ints, at.east, c.bx.ensures.near.east)

pub split_span-done-requires-clause-parent : goal.split_span-done-requires-clause-parent
split_span-done-requires-clause-parent c =
    let count = c.cells_from-width.ensures.count ∙ ap (λ (b : Extent). b.hi.x +ℤ pos 1 -ℤ c.args.low.x) c.bx.ensures.value in
    c.requires.parents c.ahead.result (ahead_held (box c.args.patch.now) c.args.low c.ahead.result c.loop-done.done c.cells_from-width.result c.requires.inside count c.loop-done-test.true c.ahead.ensures)

pub split_span-done-requires-clause-inside : goal.split_span-done-requires-clause-inside
split_span-done-requires-clause-inside c =
    let count = c.cells_from-width.ensures.count ∙ ap (λ (b : Extent). b.hi.x +ℤ pos 1 -ℤ c.args.low.x) c.bx.ensures.value in
    still_held c.args.patch.now c.loop-done.patch c.ahead.result c.loop-done.invariant.given.kept.of_box (ahead_held (box c.args.patch.now) c.args.low c.ahead.result c.loop-done.done c.cells_from-width.result c.requires.inside count c.loop-done-test.true c.ahead.ensures)

pub overflow_add-done : goal.overflow_add-done
overflow_add-done c =
    let count = c.cells_from-width.ensures.count ∙ ap (λ (b : Extent). b.hi.x +ℤ pos 1 -ℤ c.args.low.x) c.bx.ensures.value in
    omega (arith, ints, c.split_span-done.ensures.within, ap (λ (b : Extent). b.hi.x) c.loop-done.invariant.given.kept.of_box, ap (λ (d : Cell). d.x) c.ahead.ensures, count, c.cells_from-width.ensures.small)

pub loop-done-preserved : goal.loop-done-preserved
loop-done-preserved c =
    let count = c.cells_from-width.ensures.count ∙ ap (λ (b : Extent). b.hi.x +ℤ pos 1 -ℤ c.args.low.x) c.bx.ensures.value in
    let n = c.split_span-done.result in
    let done = c.loop-done.done in
    record {
      within = omega (arith, ints, c.split_span-done.ensures.within, ap (λ (b : Extent). b.hi.x) c.loop-done.invariant.given.kept.of_box, ap (λ (d : Cell). d.x) c.ahead.ensures, count);
      given = given_more (holds (span c.args.low done)) (holds (span c.ahead.result n)) (holds (span c.args.low (done + n))) (split_mass (level_of c.args.coarse.now).masses) c.args.patch.now c.loop-done.patch c.split_span-done.new.patch c.loop-done.invariant.given c.split_span-done.ensures.given (λ d. span_more c.args.low c.ahead.result d done n c.ahead.ensures);
    }

pub returns : goal.returns
returns c n e =
    let count = c.cells_from-width.ensures.count ∙ ap (λ (b : Extent). b.hi.x +ℤ pos 1 -ℤ c.args.low.x) c.bx.ensures.value in
    let all : c.loop-done.done ≡ n = omega (arith, ints, c.loop-done-test.false, c.loop-done.invariant.within, count, e) in
    subst (λ (m : ℕ). IsGiven (holds (span c.args.low m)) (split_mass (level_of c.args.coarse.now).masses) c.args.patch.now c.loop-done.patch) all c.loop-done.invariant.given
