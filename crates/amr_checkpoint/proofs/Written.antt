-- Lines, as the fragments that are written.
use Rattle.std.proofs.Common.{◌≡◌, ℕ, List, [], ◌∷◌, ◌++◌, Result, OnOk, OnErr, append_assoc, sym, ◌∙◌, ap, subst}
use Rattle.std.proofs.lemmas.List.{append-nil}
use Rattle.std.specs.Prelude.{codes, decimal}
use Rattle.amr_causes.specs.Bytes.{Grows}
use Rattle.amr_io.specs.Short.{FallsShort}
use Rattle.amr_checkpoint.specs.declared.refusal.Refusal.{Refusal}
use Rattle.amr_checkpoint.specs.declared.refusal.Refusal.TheVariants as refused
use Rattle.amr_checkpoint.specs.Marks.{checkpoint_line}
use Rattle.amr_checkpoint.specs.Refusals.{refusal_line}

-- another text for the same bytes
module _ {S : Type 0} (holds : S → List ℕ → Type 0) (old new : S) where
  pub whole_as : {F : Type 0} (r : Result Unit F) (text same : List ℕ) → text ≡ same → OnOk r (Grows holds old new text) → OnOk r (Grows holds old new same)
  whole_as r text same is whole = subst (λ (t : List ℕ). OnOk r (Grows holds old new t)) is whole

  pub short_as : {F : Type 0} (r : Result Unit F) (text same : List ℕ) → text ≡ same → OnErr r (FallsShort holds old new text) → OnErr r (FallsShort holds old new same)
  short_as r text same is short = subst (λ (t : List ℕ). OnErr r (FallsShort holds old new t)) is short

pub line_of_checkpoint : (n step : ℕ) → n ≡ step → codes "checkpoint " ++ (decimal n ++ (codes "\n" ++ [])) ≡ checkpoint_line step
line_of_checkpoint n step is = ap (λ k. checkpoint_line k) is

two_numbers : (x y : List ℕ) → x ++ (32 ∷ (y ++ 10 ∷ [])) ≡ (x ++ (32 ∷ (y ++ []))) ++ 10 ∷ []
two_numbers x y = simp (append_assoc, append-nil)

pub ahead_line : (m n stored target : ℕ) → m ≡ stored → n ≡ target → codes "amr: store is ahead: " ++ (decimal m ++ (codes " " ++ (decimal n ++ (codes "\n" ++ [])))) ≡ refusal_line (refused.Ahead stored target)
ahead_line m n stored target m_is n_is =
    ap (λ (t : List ℕ). codes "amr: store is ahead: " ++ t) (two_numbers (decimal m) (decimal n))
    ∙ ap (λ k. refusal_line (refused.Ahead k n)) m_is
    ∙ ap (λ k. refusal_line (refused.Ahead stored k)) n_is

three_numbers : (x y z : List ℕ) → x ++ (32 ∷ (y ++ (32 ∷ 97 ∷ 116 ∷ 32 ∷ (z ++ 10 ∷ [])))) ≡ (x ++ (32 ∷ (y ++ (32 ∷ 97 ∷ 116 ∷ 32 ∷ (z ++ []))))) ++ 10 ∷ []
three_numbers x y z = simp (append_assoc, append-nil)

pub wrong_problem_line : (kept given place : ℕ)
    → codes "amr: store holds another problem: " ++ (decimal kept ++ (codes " " ++ (decimal given ++ (codes " at " ++ (decimal place ++ (codes "\n" ++ [])))))) ≡ refusal_line (refused.WrongProblem kept given place)
wrong_problem_line kept given place = ap (λ (t : List ℕ). codes "amr: store holds another problem: " ++ t) (three_numbers (decimal kept) (decimal given) (decimal place))

pub same_line : (refusal same : Refusal) → refusal ≡ same → refusal_line same ≡ refusal_line refusal
same_line refusal same is = ap (λ (r : Refusal). refusal_line r) (sym is)
