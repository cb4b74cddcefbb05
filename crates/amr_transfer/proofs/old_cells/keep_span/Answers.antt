use Rattle.std.proofs.Common.{◌≡◌, ◌∙◌, ℕ, ◌≤◌, length, take, subst, arith}
use Rattle.std.proofs.lemmas.Int.{ints}
use Rattle.std.proofs.lemmas.List.{get_or-take, length-take}
use Rattle.amr_box.specs.Cells.{holds}
use Rattle.amr_patch.specs.Patches.{mass_in}
use Rattle.amr_transfer.specs.Given.{IsGiven, span}
use Rattle.amr_transfer.proofs.old_cells.keep_span.Goals as goal

pub returns : goal.returns
returns c =
    let old = c.args.old.now in
    let n = c.args.count in
    let ms = c.masses_from-masses.result.now in
    let enough : n ≤ length ms = omega (arith, ints, c.masses_from-masses.ensures.count, c.requires.old_room) in
    let whole : length (take n ms) ≡ n = length-take n ms ∙ omega arith in
    subst (λ (m : ℕ). IsGiven (holds (span c.args.c m)) (mass_in old) c.args.patch.now c.give.new.patch) whole
    (c.give.ensures (mass_in old) (λ k lt. get_or-take n ms k 0 (omega (arith, lt, whole)) ∙ c.masses_from-masses.ensures.masses k (omega (arith, lt, whole))))
