-- The steps of a run up to a given one: what they stand on, and what they leave.
use Rattle.std.specs.Prelude.{ℕ, ◌≡◌, ◌⊎◌, ◌+◌, ◌-◌, ◌<◌, ◌≤◌, false, true, List, Ok, Err, OnOk, IsErrOf, Result}
use Rattle.std.specs.List.{All}
use Rattle.amr_def.specs.declared.problem.Problem.{Problem}
use Rattle.amr_def.specs.Facts.{IsSound}
use Rattle.amr_def.specs.Run.{finish}
use Rattle.amr_def.specs.State.{State}
use Rattle.amr_patch.specs.declared.meshes.Mesh.{Mesh}
use Rattle.amr_patch.specs.Meshes.{is_spent, levels_of, state_of}
use Rattle.amr_start.specs.PatchBoxes.{IsChopped}
use Rattle.amr_cycle.specs.Cycles.{AreCoarsenableAbove}
use Rattle.amr_drive.specs.declared.drives.DriveFault.{DriveFault}
use Rattle.amr_drive.specs.declared.drives.DriveFault.TheVariants.{After, NoMemory}
use Rattle.amr_drive.specs.States.{states_after}

-- the steps of a run may be made up to this one, with `after` called after each
pub record MayDrive {A : Type 0} (ready : A → State → Type 0) (p : Problem) (target : ℕ) (mesh : Mesh) (after : A) : Type 0 where
  pub whole : is_spent mesh ≡ false
  pub sound : IsSound p (state_of mesh)
  pub ahead : (state_of mesh).step ≤ target
  pub within : target ≤ p.steps
  pub coarsenable : AreCoarsenableAbove (levels_of mesh)
  pub readiness : (k : ℕ) → (state_of mesh).step < k → k ≤ target → ready after (finish p (state_of mesh) k)

-- they were made from this mesh, or as many of them as this answer tells
pub record HasDriven {A F : Type 0} (made : A → List State → Result Unit F → A → Type 0) (p : Problem) (target : ℕ) (old : Mesh) (before : A)
    (answer : Result Unit (DriveFault F)) (mesh : Mesh) (after : A) : Type 0 where
  pub value : OnOk answer (state_of mesh ≡ finish p (state_of old) target)
  pub sound : OnOk answer (IsSound p (state_of mesh))
  -- a mesh that is not spent can be gone on with, after a refusal too
  pub patches : is_spent mesh ≡ false → All (IsChopped p.max_grid_size) (levels_of old) → All (IsChopped p.max_grid_size) (levels_of mesh)
  pub coarsenable : is_spent mesh ≡ false → AreCoarsenableAbove (levels_of mesh)
  pub whole : OnOk answer (is_spent mesh ≡ false)
  pub all_made : OnOk answer (made before (states_after p (state_of old) (target - (state_of old).step)) (Ok tt) after)
  pub refused : (f : F) → IsErrOf answer (After f) → (n : ℕ) × (0 < n) × ((state_of old).step + n ≤ target) × (is_spent mesh ≡ false)
      × (state_of mesh ≡ finish p (state_of old) ((state_of old).step + n)) × made before (states_after p (state_of old) n) (Err f) after
  pub memory : IsErrOf answer NoMemory → (n : ℕ) × ((state_of old).step + n < target)
      × ((is_spent mesh ≡ true) ⊎ ((is_spent mesh ≡ false) × (state_of mesh ≡ finish p (state_of old) ((state_of old).step + n))))
      × made before (states_after p (state_of old) n) (Ok tt) after
