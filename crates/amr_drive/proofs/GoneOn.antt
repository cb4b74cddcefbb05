-- All species up to the next regrid that is due: the states that a run of them has there.
use Rattle.std.proofs.Common.{◌≡◌, ◌∙◌, false, cond, ℕ, zero, suc, ◌-◌, ◌%◌, ◌<◌, ◌≤◌, ◌==◌, refl, sym, ap, subst, List, length, map, arith}
use Rattle.amr_def.specs.declared.problem.Problem.{Problem}
use Rattle.amr_def.specs.State.{State}
use Rattle.amr_def.specs.Run.{regrid_is_due, stepped, times}
use Rattle.amr_def.specs.Species.{IsFlock, each_from, finish_all, first_state, of_species, regrid_all, step_of}
use Rattle.amr_laws.proofs.FlockRuns.{by_themselves, finish_all-flock, finish_all-here, finish_all-parts, some_states}
use Rattle.amr_patch.specs.declared.meshes.Mesh.{Mesh}
use Rattle.amr_patch.specs.Meshes.{state_of}
use Rattle.amr_drive.specs.declared.lanes.Lane.{Lane}
use Rattle.amr_drive.specs.Flocks.{AreMeshesOf}
use Rattle.amr_drive.specs.Lanes.{HaveGone, StandsAt}
use Rattle.amr_drive.proofs.DueRegrids.{alone_to, not_due}
use Rattle.amr_drive.proofs.LaneLists.{stands_then, states_gone}

module _ (p : Problem) (workers step end : ℕ) (ms mid ns : List Mesh) (lanes mid_lanes news : List Lane) (stands : StandsAt p workers step ms lanes)
    (after : StandsAt p workers step mid mid_lanes)
    (regridded : map state_of mid ≡ cond (regrid_is_due p (first_state (map state_of ms))) (regrid_all p (map state_of ms)) (map state_of ms))
    (count : length ns ≡ length mid) (lane_count : length news ≡ length mid_lanes) (gone : HaveGone end mid mid_lanes ns news) (more : step < end) (within : end ≤ p.steps)
    (none : 0 < p.max_level → (j : ℕ) → step < j → j < end → (j % p.regrid_int == 0) ≡ false) where
  abbrev ss : List State
  ss = map state_of ms

  themselves : (m : ℕ) → p.max_level ≡ m
      → finish_all p ss end ≡ each_from (λ i s. times (stepped (of_species p i)) (end - step_of ss) s) 0 (cond (regrid_is_due p (first_state ss)) (regrid_all p ss) ss)
  themselves zero e = alone_to p end ss e stands.meshes.states (omega (arith, stands.step_is, more)) within
  themselves (suc m) e =
      by_themselves p end ss (some_states p ss stands.meshes.states) (omega (arith, stands.step_is, more))
      (λ s later below. not_due p s (none (omega (arith, e)) s.step (omega (arith, later, stands.step_is)) below))

  pub states_on : map state_of ns ≡ finish_all p (map state_of ms) end
  states_on =
      let begun : List State = cond (regrid_is_due p (first_state ss)) (regrid_all p ss) ss in
      states_gone p workers step mid mid_lanes after end ns news count lane_count gone
      ∙ ap (each_from (λ i s. times (stepped (of_species p i)) (end - step) s) 0) regridded
      ∙ ap (λ n. each_from (λ i s. times (stepped (of_species p i)) (end - n) s) 0 begun) (sym stands.step_is)
      ∙ sym (themselves p.max_level refl)

  pub stands_on : StandsAt p workers end ns news
  stands_on =
      stands_then p workers step mid mid_lanes after end ns news count lane_count gone (omega (arith, more))
      (subst (IsFlock p) (sym states_on) (finish_all-flock p (map state_of ms) end stands.meshes.states within))

-- ---- from the beginning

pub begun_here : (p : Problem) (ms : List Mesh) (k : ℕ) → step_of (map state_of ms) ≡ k → map state_of ms ≡ finish_all p (map state_of ms) k
begun_here p ms k is = sym (finish_all-here p (map state_of ms) k is)

pub begun_on : (p : Problem) (first ms ns : List Mesh) (k end : ℕ) → AreMeshesOf p first → step_of (map state_of first) ≤ k → k ≤ end
    → map state_of ms ≡ finish_all p (map state_of first) k → map state_of ns ≡ finish_all p (map state_of ms) end → map state_of ns ≡ finish_all p (map state_of first) end
begun_on p first ms ns k end flock from on here there =
    there ∙ ap (λ (ss : List State). finish_all p ss end) here ∙ finish_all-parts p (map state_of first) k end (some_states p (map state_of first) flock.states) from on
