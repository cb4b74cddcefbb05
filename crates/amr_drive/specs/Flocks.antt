-- The states of a problem's species, in meshes.
use Rattle.std.specs.Prelude.{◌≡◌, false, List, map}
use Rattle.std.specs.List.{All, range_with_len}
use Rattle.amr_def.specs.declared.problem.Problem.{Problem}
use Rattle.amr_def.specs.State.{State}
use Rattle.amr_def.specs.Run.{plain_start}
use Rattle.amr_def.specs.Species.{IsFlock, of_species}
use Rattle.amr_patch.specs.declared.meshes.Mesh.{Mesh}
use Rattle.amr_patch.specs.Meshes.{is_spent, levels_of, state_of}
use Rattle.amr_start.specs.PatchBoxes.{IsChopped}
use Rattle.amr_drive.specs.declared.flocks.Flock.{Flock}

-- ---- a flock, by species

unfoldable pub meshes_of : Flock → List Mesh
meshes_of f = f.meshes.items

abbrev pub states_of : Flock → List State
states_of f = map state_of (meshes_of f)

-- the problem of each species alone
abbrev pub problems_of : Problem → List Problem
problems_of p = map (of_species p) (range_with_len 0 p.species)

-- level 0 of each, with the masses of its blocks
abbrev pub plain_starts : Problem → List State
plain_starts p = map (λ k. plain_start (of_species p k)) (range_with_len 0 p.species)

-- ---- what a flock is

-- in the patches that the problem asks for
abbrev pub IsInPatchesOf : Problem → Mesh → Type 0
IsInPatchesOf p m = All (IsChopped p.max_grid_size) (levels_of m)

-- one of each species, at one step and on the same boxes
pub record AreMeshesOf (p : Problem) (ms : List Mesh) : Type 0 where
  pub whole : All (λ m. is_spent m ≡ false) ms
  pub states : IsFlock p (map state_of ms)
  pub patches : All (IsInPatchesOf p) ms

pub record IsFlockOf (p : Problem) (f : Flock) : Type 0 where
  pub problems : f.problems.items ≡ problems_of p
  pub meshes : AreMeshesOf p (meshes_of f)
