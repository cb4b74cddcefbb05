-- Steps of a species with no regrid between them.
use Rattle.std.proofs.Common.{◌≡◌, ◌∙◌, ℕ, zero, suc, ◌+◌, ◌-◌, ◌≤◌, refl, ap, arith}
use Rattle.amr_def.specs.declared.problem.Problem.{Problem}
use Rattle.amr_def.specs.State.{State}
use Rattle.amr_def.specs.Run.{stepped, times}
use Rattle.amr_drive.specs.Lanes.{stepped_to}

pub stepped_here : (p : Problem) (s : State) (k : ℕ) → k ≡ s.step → s ≡ stepped_to p s k
unfolding stepped_to
stepped_here p s k e =
    let none : 0 ≡ k - s.step = omega (arith, e) in
    ap (λ n. times (stepped p) n s) none

times_more : {A : Type 0} (f : A → A) (n : ℕ) (a : A) → f (times f n a) ≡ times f (suc n) a
times_more f zero a = refl
times_more f (suc n) a = times_more f n (f a)

pub stepped_more : (p : Problem) (s : State) (k : ℕ) → s.step ≤ k → stepped p (stepped_to p s k) ≡ stepped_to p s (k + 1)
unfolding stepped_to
stepped_more p s k h =
    let more : suc (k - s.step) ≡ k + 1 - s.step = omega (arith, h) in
    times_more (stepped p) (k - s.step) s ∙ ap (λ n. times (stepped p) n s) more

one_step : (p : Problem) (s : State) → (stepped p s).step ≡ s.step + 1
unfolding stepped
one_step p s = refl

steps_step : (p : Problem) (n : ℕ) (s : State) → (times (stepped p) n s).step ≡ s.step + n
steps_step p zero s = omega arith
steps_step p (suc n) s = omega (arith, steps_step p n (stepped p s), one_step p s)

pub stepped_to_step : (p : Problem) (s : State) (k : ℕ) → s.step ≤ k → (stepped_to p s k).step ≡ k
unfolding stepped_to
stepped_to_step p s k h = omega (arith, steps_step p (k - s.step) s, h)
