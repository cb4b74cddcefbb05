-- Species that go by themselves, from one regrid that is due to the next.
use Rattle.std.specs.Prelude.{◌≡◌, ℕ, ◌-◌, ◌<◌, ◌≤◌, cond, false, List, length, map, slice_index_or}
use Rattle.amr_def.specs.declared.problem.Problem.{Problem}
use Rattle.amr_def.specs.State.{Level, State}
use Rattle.amr_def.specs.Facts.{IsSound}
use Rattle.amr_def.specs.Run.{regrid_is_due, stepped, times}
use Rattle.amr_def.specs.Species.{first_state, of_species, regrid_all, step_of}
use Rattle.amr_patch.specs.declared.meshes.Mesh.{Mesh}
use Rattle.amr_patch.specs.Meshes.{is_spent, state_of}
use Rattle.amr_cycle.specs.declared.kept.Kept.{Kept}
use Rattle.amr_cycle.specs.KeptLevels.{IsKeptFor}
use Rattle.amr_drive.specs.declared.lanes.Lane.{Lane}
use Rattle.amr_drive.specs.Flocks.{AreMeshesOf, IsInPatchesOf}

-- the further steps up to step k, with no regrid between them
unfoldable pub stepped_to : Problem → State → ℕ → State
stepped_to p s k = times (stepped p) (k - s.step) s

-- what holds of each mesh and of the lane at its place
abbrev pub AtEach : (Mesh → Lane → Type 0) → List Mesh → List Lane → Type 0
AtEach R ms lanes = (k : ℕ) (d : Mesh) (e : Lane) → k < length ms → R (slice_index_or ms k d) (slice_index_or lanes k e)

-- ---- one species

-- its steps may be made up to this one
pub record MayStep (p : Problem) (end : ℕ) (mesh : Mesh) (kept : Kept) : Type 0 where
  pub whole : is_spent mesh ≡ false
  pub sound : IsSound p (state_of mesh)
  pub ahead : (state_of mesh).step ≤ end
  pub within : end ≤ p.steps
  pub patches : IsInPatchesOf p mesh
  pub kept_is : IsKeptFor p (state_of mesh).levels kept

-- they were made from this mesh
pub record HasStepped (p : Problem) (end : ℕ) (old mesh : Mesh) (kept : Kept) : Type 0 where
  pub value : state_of mesh ≡ stepped_to p (state_of old) end
  pub whole : is_spent mesh ≡ false
  pub patches : IsInPatchesOf p mesh
  pub kept_is : IsKeptFor p (state_of mesh).levels kept

-- its workers may make them
pub record MayGo {G : Type 0} (admits : G → ℕ → ℕ → Type 0) (gate : G) (end : ℕ) (mesh : Mesh) (lane : Lane) : Type 0 where
  pub steps : MayStep lane.problem.now end mesh lane.kept
  pub some_workers : 1 ≤ lane.workers
  pub few_workers : lane.workers ≤ 64
  pub admitted : (worker task : ℕ) → worker < lane.workers → admits gate worker task

-- they made them
pub record HasGone (end : ℕ) (old : Mesh) (before : Lane) (mesh : Mesh) (lane : Lane) : Type 0 where
  pub problem : lane.problem.now ≡ before.problem.now
  pub workers : lane.workers ≡ before.workers
  pub steps : HasStepped before.problem.now end old mesh lane.kept

-- ---- all species

-- the lane of species k, by one of so many workers at most
pub record IsLaneOf (p : Problem) (workers k : ℕ) (mesh : Mesh) (lane : Lane) : Type 0 where
  pub problem : lane.problem.now ≡ of_species p k
  pub some_workers : 1 ≤ lane.workers
  pub few_workers : lane.workers ≤ workers
  pub kept : IsKeptFor (of_species p k) (state_of mesh).levels lane.kept

-- all species stand at a step, each mesh with the lane of its number
pub record StandsAt (p : Problem) (workers step : ℕ) (ms : List Mesh) (lanes : List Lane) : Type 0 where
  pub meshes : AreMeshesOf p ms
  pub step_is : step_of (map state_of ms) ≡ step
  pub one_each : length lanes ≡ length ms
  pub lanes_are : (k : ℕ) (d : Mesh) (e : Lane) → k < length ms → IsLaneOf p workers k (slice_index_or ms k d) (slice_index_or lanes k e)

-- all of them were made from these
abbrev pub HaveGone : ℕ → List Mesh → List Lane → List Mesh → List Lane → Type 0
HaveGone end olds before ms lanes =
    (k : ℕ) (d : Mesh) (e : Lane) → k < length olds
    → HasGone end (slice_index_or olds k d) (slice_index_or before k e) (slice_index_or ms k d) (slice_index_or lanes k e)

-- meshes and those of lanes change places
pub record HaveChanged (olds : List Mesh) (before : List Lane) (ms : List Mesh) (lanes : List Lane) : Type 0 where
  pub out : (k : ℕ) (d : Mesh) (e : Lane) → k < length olds → slice_index_or ms k d ≡ (slice_index_or before k e).mesh
  pub into : (k : ℕ) (d : Mesh) (e : Lane) → k < length olds → slice_index_or lanes k e ≡ record (slice_index_or before k e) { mesh = slice_index_or olds k d }

-- what is kept of masses is forgotten
pub record HasForgotten (before lane : Lane) : Type 0 where
  pub problem : lane.problem.now ≡ before.problem.now
  pub workers : lane.workers ≡ before.workers
  pub kept : (p : Problem) (olds levels : List Level) → IsKeptFor p olds before.kept → IsKeptFor p levels lane.kept

-- nothing is kept yet of whatever levels
pub record IsNewLane (workers : ℕ) (p : Problem) (lane : Lane) : Type 0 where
  pub problem : lane.problem.now ≡ p
  pub some_workers : 1 ≤ lane.workers
  pub few_workers : lane.workers ≤ workers
  pub kept : (q : Problem) (levels : List Level) → IsKeptFor q levels lane.kept

-- regridded, where that is due
abbrev pub IsRegriddedIfDue : Problem → List State → List State → Type 0
IsRegriddedIfDue p olds ss = ss ≡ cond (regrid_is_due p (first_state olds)) (regrid_all p olds) olds
