-- Runs in parts.
use Rattle.std.proofs.Common.{◌≡◌, ℕ, zero, suc, ◌+◌, ◌-◌, ◌≤◌, Bool, true, false, cond, refl, ap, ◌∙◌, arith}
use Rattle.amr_def.specs.declared.problem.Problem.{Problem}
use Rattle.amr_def.specs.State.{State}
use Rattle.amr_def.specs.Run.{next, stepped, regrid_is_due, times, finish}
use Rattle.amr_def.specs.Regrid.{regrid, regrid_by}

times-add : {A : Type 0} (f : A → A) (m n : ℕ) (a : A) → times f n (times f m a) ≡ times f (m + n) a
times-add f zero n a = let e : n ≡ 0 + n = omega arith in ap (λ k. times f k a) e
times-add f (suc m) n a = let e : suc (m + n) ≡ suc m + n = omega arith in times-add f m n (f a) ∙ ap (λ k. times f k a) e

-- a count that each application raises by one
module _ {A : Type 0} (f : A → A) (at : A → ℕ) (P : A → Type 0) (keeps : (a : A) → P a → P (f a)) (next_at : (a : A) → P a → at (f a) ≡ at a + 1) where
  pub at_times : (n : ℕ) (a : A) → P a → at (times f n a) ≡ at a + n
  at_times zero a h = omega arith
  at_times (suc n) a h = omega (arith, at_times n (f a) (keeps a h), next_at a h)

  -- up to a count in two parts is up to it at once
  pub times_in_parts : (a : A) (i k : ℕ) → P a → at a ≤ i → i ≤ k → times f (k - at (times f (i - at a) a)) (times f (i - at a) a) ≡ times f (k - at a) a
  times_in_parts a i k h from on =
      let reached : at (times f (i - at a) a) ≡ i = omega (arith, at_times (i - at a) a h) in
      let all : (i - at a) + (k - i) ≡ k - at a = omega arith in
      ap (λ n. times f (k - n) (times f (i - at a) a)) reached ∙ times-add f (i - at a) (k - i) a ∙ ap (λ n. times f n a) all

pub step-next : (p : Problem) (s : State) → (next p s).step ≡ s.step + 1
unfolding next stepped regrid regrid_by
step-next p s = due (regrid_is_due p s)
  where
    due : (b : Bool) → (stepped p (cond b (regrid p s) s)).step ≡ s.step + 1
    due true = refl
    due false = refl

pub step-times : (p : Problem) (n : ℕ) (s : State) → (times (next p) n s).step ≡ s.step + n
step-times p n s = at_times (next p) (λ s. s.step) (λ s. Unit {0}) (λ s h. tt) (λ s h. step-next p s) n s tt

-- a run in two parts is the run at once
pub resumes : (p : Problem) (s : State) (i k : ℕ) → s.step ≤ i → i ≤ k → finish p (finish p s i) k ≡ finish p s k
unfolding finish
resumes p s i k from on = times_in_parts (next p) (λ s. s.step) (λ s. Unit {0}) (λ s h. tt) (λ s h. step-next p s) s i k tt from on

pub finish_step : (p : Problem) (s : State) (k : ℕ) → s.step ≤ k → (finish p s k).step ≡ k
unfolding finish
finish_step p s k h = let e = step-times p (k - s.step) s in omega (arith, e, h)
