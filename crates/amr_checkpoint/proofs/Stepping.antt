-- The step of a state that is finished to a step, and runs that go on from a state of theirs.
use Rattle.std.proofs.Common.{◌≡◌, ℕ, zero, suc, ◌≤◌, refl, sym, ap, ◌∙◌, arith}
use Rattle.amr_def.specs.declared.problem.Problem.{Problem}
use Rattle.amr_def.specs.State.{State}
use Rattle.amr_def.specs.Regrid.{regrid}
use Rattle.amr_def.specs.Run.{finish, plain_start, run, start, times}
use Rattle.amr_def.proofs.Runs.{resumes}
use Rattle.amr_def.proofs.SoundRun.{regrid_step}

pub regrids_step : (p : Problem) (n : ℕ) (s : State) → (times (regrid p) n s).step ≡ s.step
regrids_step p zero s = refl
regrids_step p (suc n) s = regrids_step p n (regrid p s) ∙ regrid_step p s

pub start_step : (p : Problem) → (start p).step ≡ 0
unfolding start
start_step p = regrids_step p p.max_level (plain_start p)

pub run_is : (p : Problem) (k : ℕ) → finish p (start p) k ≡ run p k
unfolding run
run_is p k = refl

-- to go on from a state of the run is the run
pub runs_on : (p : Problem) (s : State) (k : ℕ) → s ≡ run p s.step → s.step ≤ k → finish p s k ≡ run p k
runs_on p s k is later =
    ap (λ (t : State). finish p t k) (is ∙ sym (run_is p s.step))
    ∙ resumes p (start p) s.step k (omega (arith, start_step p)) later
    ∙ run_is p k
