-- Runs of all species: their states are sound, and each regrid covers the tagged cells.
use Rattle.std.proofs.Common.{◌≡◌, ◌∙◌, ℕ, ◌<◌, ◌≤◌, false, List, ap, arith, get_or, length, map, subst, sym}
use Rattle.std.specs.List.{All}
use Rattle.std.proofs.lemmas.List.{get_or-map, length-map}
use Rattle.amr_def.specs.declared.problem.Problem.{Problem}
use Rattle.amr_def.specs.Run.{times}
use Rattle.amr_def.specs.Facts.{IsSound}
use Rattle.amr_def.specs.Species.{IsFlock, finish_all, no_state, regrid_all, run_all, start_all, step_of}
use Rattle.amr_def.specs.State.{State}
use Rattle.amr_drive.specs.declared.flocks.Flock.{Flock}
use Rattle.amr_drive.specs.Flocks.{IsFlockOf, meshes_of, plain_starts}
use Rattle.amr_patch.specs.declared.meshes.Mesh.{Mesh}
use Rattle.amr_patch.specs.Meshes.{is_spent, state_of}
use Rattle.amr_laws.proofs.FlockRegrid.{regrid_all-held}
use Rattle.amr_laws.proofs.FlockRuns.{finish_all-flock, plain_starts-flock, regrids_all-flock, run_all-flock, start_all-flock, start_all-step}
use Rattle.amr_run.specs.Answer.{IsSoundRun}

pub is_sound_run : (p : Problem) (k : ℕ) → k ≤ p.steps → IsSoundRun p k
is_sound_run p k within = record {
  sound = run_all-flock p k within;
  start_held = λ n below. regrid_all-held p (times (regrid_all p) n (plain_starts p)) (regrids_all-flock p n (plain_starts p) (plain_starts-flock p)).alike;
  held = λ j from below due. regrid_all-held p (finish_all p (start_all p) j) (finish_all-flock p (start_all p) j (start_all-flock p) (omega arith)).alike;
}

pub starts_at : (p : Problem) (first : List State) (k : ℕ) → first ≡ start_all p → step_of first ≤ k
starts_at p first k starts = let at : step_of first ≡ 0 = ap step_of starts ∙ start_all-step p in omega (arith, at)

-- a run from its start
pub run_is : (p : Problem) (first last : List State) (k : ℕ) → first ≡ start_all p → last ≡ finish_all p first k → last ≡ run_all p k
unfolding run_all
run_is p first last k starts ends = ends ∙ ap (λ (ss : List State). finish_all p ss k) starts

-- ---- the meshes of a flock

module _ (p : Problem) (f : Flock) (ms : List Mesh) (same : ms ≡ meshes_of f) (of : IsFlockOf p f) where
  pub meshes_whole : All (λ m. is_spent m ≡ false) ms
  meshes_whole = subst (All (λ m. is_spent m ≡ false)) (sym same) of.meshes.whole

  pub meshes_flock : IsFlock p (map state_of ms)
  meshes_flock = subst (λ (l : List Mesh). IsFlock p (map state_of l)) (sym same) of.meshes.states

  meshes_count : length ms ≡ p.species
  meshes_count = sym (length-map ms state_of) ∙ meshes_flock.one_each

  -- that of a species
  pub mesh_sound : (k : ℕ) (m : Mesh) → k < p.species → m ≡ get_or ms k m → IsSound p (state_of m)
  mesh_sound k m below is =
      let within : k < length ms = omega (arith, meshes_count) in
      subst (IsSound p) (get_or-map state_of ms k m no_state within ∙ ap state_of (sym is)) (meshes_flock.alike.sound k no_state (omega (arith, within, length-map ms state_of)))
