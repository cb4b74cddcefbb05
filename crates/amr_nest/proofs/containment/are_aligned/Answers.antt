use Rattle.std.proofs.Common.{◌≡◌, ◌∙◌, ◌+◌, ◌<◌, Bool, true, false, ℕ, get_or, refl, sym, ap, subst, arith}
use Rattle.std.specs.Prelude.{◌==◌}
use Rattle.std.proofs.lemmas.Bool.Decides.{nat_tests}
use Rattle.std.proofs.lemmas.List.{get_or_default}
use Rattle.std.proofs.lemmas.Bool.{eqb-true}
use Rattle.amr_box.specs.Cells.{Extent}
use Rattle.amr_def.specs.Facts.{IsAligned}
use Rattle.amr_nest.proofs.containment.are_aligned.Goals as goal

less : (k n : ℕ) → k < n + 1 → (k == n) ≡ false → k < n
less k n g e = grind (arith, nat_tests)

clash : false ≡ true → ⊥
clash e = cc

pub loop-b-init : goal.loop-b-init
loop-b-init c = λ m e h. absurd (omega arith)

pub loop-b-preserved : goal.loop-b-preserved
loop-b-preserved c = λ m e h. choose m e h (m == c.loop-b.b-index) refl
  where
    choose : (m : ℕ) (e : Extent) → m < c.loop-b.b-index + 1 → (v : Bool) → (m == c.loop-b.b-index) ≡ v → IsAligned c.args.blocking (get_or c.args.boxes.now m e)
    choose m e h true is =
        let at : c.b-item.result ≡ get_or c.args.boxes.now c.loop-b.b-index e = c.b-item.is ∙ get_or_default c.args.boxes.now c.loop-b.b-index c.b-item.result e c.loop-b-test.true in
        let place : c.b-item.result ≡ get_or c.args.boxes.now m e = at ∙ ap (λ (n : ℕ). get_or c.args.boxes.now n e) (sym (eqb-true m c.loop-b.b-index is)) in
        subst (IsAligned c.args.blocking) place (c.is_aligned.ensures.0 c.if-not-is_aligned.false)
    choose m e h false is = c.loop-b.invariant m e (less m c.loop-b.b-index h is)

pub returns-then-not-is_aligned : goal.returns-then-not-is_aligned
returns-then-not-is_aligned c = (
  λ h. absurd (clash h),
  λ all. sym c.if-not-is_aligned.true ∙ c.is_aligned.ensures.1 (subst (IsAligned c.args.blocking) (sym c.b-item.is) (all c.loop-b.b-index c.b-item.result c.loop-b-test.true)),
)

pub returns : goal.returns
returns c = (λ h m e below. c.loop-b.invariant m e (omega (arith, below, c.loop-b-test.false)), λ all. refl)
