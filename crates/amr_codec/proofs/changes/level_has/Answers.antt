use Rattle.std.proofs.Common.{◌≡◌, ◌-◌, ◌+◌, ℕ, List, length, take, drop, length-drop, refl, ap, arith}
use Rattle.std.proofs.lemmas.List.{take_all}
use Rattle.amr_patch.specs.Levels.{level_of}
use Rattle.amr_codec.proofs.KeptRows.{spans_joined, spans_within}
use Rattle.amr_codec.proofs.changes.level_has.Goals as goal

pub returns-then-count-eq0 : goal.returns-then-count-eq0
returns-then-count-eq0 c =
    let done = c.loop-done.done in
    let masses = c.args.masses.now in
    let rest : take (length masses - done) (drop done masses) ≡ drop done masses = take_all (length masses - done) (drop done masses) (omega (arith, length-drop done masses)) in
    let count : length (take (length masses - done) (drop done masses)) ≡ length masses - done = omega (arith, length-drop done masses, ap (λ (xs : List ℕ). length xs) rest) in (
      λ h. absurd (cc),
      λ all. absurd (c.span_with-count.ensures.none (omega (arith, c.if-count-eq0.true))
          (spans_within (level_of c.args.level.now).masses c.args.b.now c.args.row c.args.first done (c.args.first + done) masses (take (length masses - done) (drop done masses)) refl rest (omega (arith, count, c.loop-done-test.true)) all)),
    )

pub loop-done-preserved : goal.loop-done-preserved
loop-done-preserved c =
    let done = c.loop-done.done in
    let masses = c.args.masses.now in
    let rest : take (length masses - done) (drop done masses) ≡ drop done masses = take_all (length masses - done) (drop done masses) (omega (arith, length-drop done masses)) in
    let count : length (take (length masses - done) (drop done masses)) ≡ length masses - done = omega (arith, length-drop done masses, ap (λ (xs : List ℕ). length xs) rest) in
    record {
      same = spans_joined (level_of c.args.level.now).masses c.args.b.now c.args.row c.args.first done c.span_with-count.result (c.args.first + done) masses (take (length masses - done) (drop done masses)) refl rest c.loop-done.invariant.same c.span_with-count.ensures.same;
      within = omega (arith, count, c.span_with-count.ensures.within, c.loop-done-test.true);
    }
