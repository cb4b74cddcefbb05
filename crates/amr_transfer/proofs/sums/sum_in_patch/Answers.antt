use Rattle.std.proofs.Common.{◌≡◌, ◌∙◌, ℕ, ◌*◌, ◌≤◌, List, ◌++◌, length, take, drop, IsTrue, sym, ap, subst, arith}
use Rattle.std.specs.Prelude.{slice_index}
use Rattle.std.proofs.lemmas.Int.{ints}
use Rattle.std.proofs.lemmas.List.{length-take-le}
use Rattle.amr_box.specs.Cells.{Extent, IsNear, holds}
use Rattle.amr_transfer.specs.Given.{IsGiven, span}
use Rattle.amr_transfer.proofs.GivenCells.{written}
use Rattle.amr_transfer.proofs.sums.sum_in_patch.Goals as goal

pub cells_from-requires-clause-near : goal.cells_from-requires-clause-near
cells_from-requires-clause-near c = subst (λ (b : Extent). IsNear b) (sym c.bx.ensures.value) c.bx.ensures.near

pub cells_from-requires-clause-inside : goal.cells_from-requires-clause-inside
cells_from-requires-clause-inside c = subst (λ (b : Extent). IsTrue (holds b c.args.c)) (sym c.bx.ensures.value) c.requires.inside

pub returns-clause-inside : goal.returns-clause-inside
returns-clause-inside c = omega (arith, ints, c.min-count.ensures, c.cells_from.ensures.count, ap (λ (b : Extent). b.hi.x) c.bx.ensures.value)

pub returns-clause-given : goal.returns-clause-given
returns-clause-given c mass is =
    let n = c.min-count.result in
    let room = c.args.room.now in
    let few : n ≤ length room = omega (arith, c.min-count.ensures, c.min.ensures) in
    let half : 2 * n ≤ length c.args.children.lower.now = omega (arith, c.min-count.ensures, c.min.ensures) in
    let row = written n room c.sum_rows.new.sums few c.sum_rows.auto.sums in
    let count : length c.sum_rows.new.sums ≡ n = c.sum_rows.auto.sums ∙ length-take-le n room few in
    let whole : length (take n (c.sum_rows.new.sums ++ drop n room)) ≡ n = ap (λ (xs : List ℕ). length xs) row ∙ count in
    subst (λ (m : ℕ). IsGiven (holds (span c.args.c m)) mass c.args.patch.now c.give.new.patch) whole
    (c.give.ensures mass (λ k lt. ap (λ (xs : List ℕ). slice_index xs k) row ∙ c.sum_rows.ensures k (omega (arith, lt, whole, count)) ∙ is k (omega (arith, lt, whole, half))))
