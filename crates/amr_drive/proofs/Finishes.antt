-- A run, a step at a time.
use Rattle.std.proofs.Common.{◌≡◌, ◌∙◌, ℕ, suc, ◌+◌, ◌-◌, ◌≤◌, [], ◌∷◌, ◌++◌, Ok, Err, sym, ap, arith}
use Rattle.std.specs.Prelude.{IsErrAnd, OnOk, Result}
use Rattle.amr_def.specs.declared.problem.Problem.{Problem}
use Rattle.amr_def.specs.Facts.{IsSound}
use Rattle.amr_def.specs.State.{State}
use Rattle.amr_def.specs.Run.{finish, next, times}
use Rattle.amr_def.proofs.Runs.{finish_step, resumes}
use Rattle.amr_def.proofs.SoundRun.{finish-sound}
use Rattle.amr_laws.proofs.Held.{regrid-held}
use Rattle.amr_laws.proofs.SoundRegrid.{regrid-sound}
use Rattle.amr_drive.specs.Regrids.{RunHoldsTags}
use Rattle.amr_drive.specs.States.{states_after}

-- a state is finished to its own step
pub finish_here : (p : Problem) (s : State) (k : ℕ) → s.step ≡ k → finish p s k ≡ s
unfolding finish
finish_here p s k e =
    let none : k - s.step ≡ 0 = omega arith in
    ap (λ n. times (next p) n s) none

finish_one : (p : Problem) (s : State) → finish p s (s.step + 1) ≡ next p s
unfolding finish
finish_one p s =
    let one : s.step + 1 - s.step ≡ 1 = omega arith in
    ap (λ n. times (next p) n s) one

-- one step further
pub finish_more : (p : Problem) (s : State) (k : ℕ) → s.step ≤ k → next p (finish p s k) ≡ finish p s (k + 1)
finish_more p s k h =
    sym (finish_one p (finish p s k))
    ∙ ap (λ n. finish p (finish p s k) (n + 1)) (finish_step p s k h)
    ∙ resumes p s k (k + 1) h (omega arith)

pub finish_sound : (p : Problem) (s : State) (k : ℕ) → IsSound p s → k ≤ p.steps → IsSound p (finish p s k)
finish_sound p s k sound within = finish-sound p (regrid-sound p) s k sound within

pub run_holds : (p : Problem) (s : State) (k : ℕ) → IsSound p s → k ≤ p.steps → RunHoldsTags p s k
run_holds p s k sound within = λ j from more due. regrid-held p (finish p s j) (finish_sound p s j sound (omega (arith, more, within)))

-- ---- the states after steps

pub none_after : (p : Problem) (s : State) (k : ℕ) → k ≡ s.step → states_after p s (k - s.step) ≡ []
none_after p s k e = let none : k - s.step ≡ 0 = omega (arith, e) in ap (states_after p s) none

-- one more
pub after_more : (p : Problem) (s : State) (k : ℕ) (t : State) → s.step ≤ k → t ≡ finish p s (k + 1) → states_after p s (k - s.step) ++ t ∷ [] ≡ states_after p s (suc (k - s.step))
after_more p s k t from is =
    let at : k + 1 ≡ s.step + suc (k - s.step) = omega (arith, from) in
    ap (λ (u : State). states_after p s (k - s.step) ++ u ∷ []) (is ∙ ap (finish p s) at)

-- ---- a refusal that is handed on

pub through : {T U E : Type 0} (r : Result T E) (q : Result U E) (x e : E) → r ≡ Err x → IsErrAnd q (λ y. y ≡ x) → q ≡ Err e → r ≡ Err e
through r (Ok u) x e is same h = absurd same
through r (Err y) x e is same h = let here : y ≡ e = cc in is ∙ ap Err (sym same ∙ here)

pub not_done : {U E : Type 0} (P : E → Type 0) (X : Type 0) (q : Result U E) → IsErrAnd q P → OnOk q X
not_done P X (Ok u) same = absurd same
not_done P X (Err y) same = tt

pub no_fault : {U E X : Type 0} (u : U) (e : E) → Ok u ≡ Err e → X
no_fault u e is = absurd (cc)
