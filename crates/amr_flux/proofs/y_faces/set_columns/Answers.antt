use Rattle.std.proofs.Common.{◌≡◌, ◌≢◌, ℤ, ◌⊎◌, inl, inr, ℕ, ◌+◌, ◌<◌, ◌≤◌, ◌∙◌, length, length-set, get_or-set_same, get_or-set_other, sym, ap, refl, arith, rules}
use Rattle.std.specs.Prelude.{slice_index, slice_set}
use Rattle.std.proofs.lemmas.Bool.{cases_eq}
use Rattle.amr_faces.specs.Numbers.{y_number}
use Rattle.amr_faces.specs.Shares.{AreFactors}
use Rattle.amr_flux.proofs.Steps.{factors_same}
use Rattle.amr_flux.proofs.y_faces.set_columns.Goals as goal

pub loop-i-preserved : goal.loop-i-preserved
loop-i-preserved c =
    let i = c.loop-i.i in
    let lows = c.loop-i.factors.low.items in
    let highs = c.loop-i.factors.high.items in
    let low = c.factors-pair.result.low in
    let high = c.factors-pair.result.high in
    let f : ℕ → ℤ = λ n. y_number c.args.p.now c.args.shape.level (c.args.shape.column + n) in
    let number : c.column_share-share.result.number ≡ f i = c.column_share-share.ensures.number in
    let parts : c.column_share-share.result.parts ≡ c.args.p.now.d = c.column_share-share.ensures.parts in
    let low_room : i < length lows = search rules in
    let high_room : i < length highs = search rules in
    let below_share : c.min-limit.result ≤ c.column_share-share.result.limit = search rules in
    let below_last : c.min-limit.result ≤ c.loop-i.limit = search rules in
    let at_each : (k : ℕ) → k < i + 1 → (k ≡ i) ⊎ (k ≢ i) → AreFactors (f k) c.args.p.now.d c.min-limit.result (slice_index (slice_set lows i low) k) (slice_index (slice_set highs i high) k) = λ k h cases. elim cases [
      | inl e ↦ factors_same _ _ _ _ _ _ _ _ _ _ (number ∙ ap f (sym e)) parts below_share (sym (get_or-set_same lows i low 0 low_room) ∙ ap (λ n. slice_index (slice_set lows i low) n) (sym e)) (sym (get_or-set_same highs i high 0 high_room) ∙ ap (λ n. slice_index (slice_set highs i high) n) (sym e)) c.factors-pair.ensures
      | inr ne ↦ factors_same _ _ _ _ _ _ _ _ _ _ refl refl below_last (sym (get_or-set_other lows i k low 0 ne)) (sym (get_or-set_other highs i k high 0 ne)) (c.loop-i.invariant.made k (omega arith))
    ] in
    record { room = omega (arith, length-set {A = ℕ}); made = λ k h. at_each k h (cases_eq k i) }

pub returns-then-is_empty-clause-columns : goal.returns-then-is_empty-clause-columns
returns-then-is_empty-clause-columns c = record { room = λ some. absurd (omega (arith, some)); at = λ i h some. absurd (omega (arith, some)) }

pub returns-then-len-shape-clause-columns : goal.returns-then-len-shape-clause-columns
returns-then-len-shape-clause-columns c = record { room = λ some. absurd (omega (arith, some)); at = λ i h some. absurd (omega (arith, some)) }

pub loop-i-init : goal.loop-i-init
loop-i-init c = record { room = refl; made = λ k h. absurd (omega arith) }

pub returns-clause-columns : goal.returns-clause-columns
returns-clause-columns c = record { room = λ some. omega arith; at = λ i h some. c.loop-i.invariant.made i (omega arith) }

pub column_share-share-requires : goal.column_share-share-requires
column_share-share-requires c = record { level = c.requires.level; inside = c.requires.inside; column = c.loop-i-test.true }
