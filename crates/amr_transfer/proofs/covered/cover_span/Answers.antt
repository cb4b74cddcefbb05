use Rattle.std.proofs.Common.{◌≡◌, ◌∙◌, ℕ, ◌<◌, ◌^◌, pos, ◌+ℤ◌, length, sym, subst, arith}
use Rattle.std.proofs.lemmas.Int.{ints}
use Rattle.amr_box.specs.Cells.{cell, holds}
use Rattle.amr_patch.specs.Patches.{box}
use Rattle.amr_transfer.specs.Given.{IsGiven, span}
use Rattle.amr_transfer.specs.Sums.{children_in}
use Rattle.amr_transfer.proofs.Covers.{child_ahead, four_from}
use Rattle.amr_transfer.proofs.Fours.{four_of_first}
use Rattle.amr_transfer.proofs.covered.cover_span.Goals as goal

pub children_from-upper-requires-clause-there : goal.children_from-upper-requires-clause-there
children_from-upper-requires-clause-there c = (four_of_first c.args.fine.now c.args.c c.requires.aligned c.requires.children).third

pub sum_rows-requires-clause-lower : goal.sum_rows-requires-clause-lower
sum_rows-requires-clause-lower c = omega (arith, ints, c.children_from-lower.ensures.count, c.requires.fine_room)

pub sum_rows-requires-clause-upper : goal.sum_rows-requires-clause-upper
sum_rows-requires-clause-upper c = omega (arith, ints, c.children_from-upper.ensures.count, c.requires.fine_room)

pub sum_rows-requires-clause-fits : goal.sum_rows-requires-clause-fits
sum_rows-requires-clause-fits c k lt =
    let f = c.args.fine.now in
    let lower = c.children_from-lower.result.now in
    let upper = c.children_from-upper.result.now in
    let is = four_from f c.args.c lower upper k c.children_from-lower.ensures.masses c.children_from-upper.ensures.masses (omega (arith, ints, lt, c.children_from-lower.ensures.count, c.requires.fine_room)) (omega (arith, ints, lt, c.children_from-upper.ensures.count, c.requires.fine_room)) in
    subst (λ (m : ℕ). m < 2 ^ 32) (sym is) (c.requires.small (cell (c.args.c.x +ℤ pos k) c.args.c.y) (child_ahead (box f) c.args.c k (length c.args.room.now) c.requires.children c.requires.fine_room lt))

pub returns : goal.returns
returns c =
    let f = c.args.fine.now in
    let n = length c.args.room.now in
    let count : length c.sum_rows.new.sums ≡ n = c.sum_rows.auto.sums in
    subst (λ (m : ℕ). IsGiven (holds (span c.args.c m)) (children_in f) c.args.patch.now c.give.new.patch) count
    (c.give.ensures (children_in f) (λ k lt.
    let less : k < n = omega (arith, lt, count) in
    c.sum_rows.ensures k lt
    ∙ four_from f c.args.c c.children_from-lower.result.now c.children_from-upper.result.now k c.children_from-lower.ensures.masses c.children_from-upper.ensures.masses (omega (arith, ints, less, c.children_from-lower.ensures.count, c.requires.fine_room)) (omega (arith, ints, less, c.children_from-upper.ensures.count, c.requires.fine_room))))
