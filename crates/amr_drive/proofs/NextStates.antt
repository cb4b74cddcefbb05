-- The next state, by its regrid and its step.
use Rattle.std.proofs.Common.{◌≡◌, ◌∙◌, Bool, true, false, cond, refl, sym, ap}
use Rattle.amr_def.specs.declared.problem.Problem.{Problem}
use Rattle.amr_def.specs.Regrid.{regrid, regrid_by}
use Rattle.amr_def.specs.Run.{next, regrid_is_due, stepped}
use Rattle.amr_def.specs.Facts.{IsSound}
use Rattle.amr_def.specs.State.{State}
use Rattle.amr_def.proofs.SoundRun.{regrid_alone}

pub next_is : (p : Problem) (s t : State) → t ≡ cond (regrid_is_due p s) (regrid p s) s → stepped p t ≡ next p s
unfolding next
next_is p s t e = ap (stepped p) e

step_kept : (b : Bool) (p : Problem) (s : State) → (cond b (regrid p s) s).step ≡ s.step
unfolding regrid regrid_by
step_kept true p s = refl
step_kept false p s = refl

pub same_step : (p : Problem) (s t : State) → t ≡ cond (regrid_is_due p s) (regrid p s) s → t.step ≡ s.step
same_step p s t e = ap (λ (r : State). r.step) e ∙ step_kept (regrid_is_due p s) p s

-- a regrid that is due leaves one level alone as it is
pub alone_is : (p : Problem) (s : State) → p.max_level ≡ 0 → IsSound p s → s ≡ cond (regrid_is_due p s) (regrid p s) s
alone_is p s alone sound = either (regrid_is_due p s)
  where
    either : (b : Bool) → s ≡ cond b (regrid p s) s
    either true = sym (regrid_alone p s alone sound)
    either false = refl
