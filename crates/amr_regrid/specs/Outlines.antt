-- Levels by their boxes, masses and patch boxes, and meshes by their levels.
use Rattle.std.specs.Prelude.{◌≡◌, ◌<◌, Bool, false, List, [], length, map}
use Rattle.std.specs.Global.{Vec}
use Rattle.std.specs.List.{All}
use Rattle.amr_box.specs.Cells.{Extent}
use Rattle.amr_def.specs.declared.problem.Problem.{Problem}
use Rattle.amr_def.specs.Facts.{IsSound}
use Rattle.amr_def.specs.NewBoxes.{new_boxes}
use Rattle.amr_def.specs.Regrid.{new_level_count}
use Rattle.amr_def.specs.Species.{AreAlike, first_state, is_tagged_in_some}
use Rattle.amr_def.specs.State as defined
use Rattle.amr_patch.specs.declared.levels.Level.{Level}
use Rattle.amr_patch.specs.declared.meshes.Mesh.{Mesh}
use Rattle.amr_patch.specs.Levels.{level_of, patches_of}
use Rattle.amr_patch.specs.Meshes.{is_spent, levels_of, state_of}
use Rattle.amr_patch.specs.Patches.{box}

-- what a level is, and its patch boxes
pub record Outline : Type 0 where
  pub level : defined.Level
  pub patch_boxes : List Extent

abbrev pub outline : Level → Outline
outline k = record { level = level_of k; patch_boxes = map box (patches_of k) }

abbrev pub outlines : List Level → List Outline
outlines ks = map outline ks

-- a state with these levels
abbrev pub with_levels : List Level → defined.State
with_levels ks = record { step = 0; rows = []; levels = map level_of ks }

-- the levels of a sound state
pub record IsSoundWith (p : Problem) (ks : List Level) : Type 0 where
  pub state : defined.State
  pub levels_are : state.levels ≡ map level_of ks
  pub sound : IsSound p state

abbrev pub lists_in : List (Vec Extent) → List (List Extent)
lists_in = map (λ v. v.items)

-- ---- meshes

-- what a mesh is, and its patch boxes
pub record MeshOutline : Type 0 where
  pub state : defined.State
  pub levels : List Outline
  pub spent : Bool

abbrev pub mesh_outline : Mesh → MeshOutline
mesh_outline m = record { state = state_of m; levels = outlines (levels_of m); spent = is_spent m }

-- one mesh or more, whole, in states that are alike
pub record AreAlikeMeshes (p : Problem) (ms : List Mesh) : Type 0 where
  pub some : 0 < length ms
  pub whole : All (λ m. is_spent m ≡ false) ms
  pub alike : AreAlike p (map state_of ms)

-- the new boxes at a regrid of states that are alike
abbrev pub shared_boxes : Problem → List defined.State → List (List Extent)
shared_boxes p ss = new_boxes p (is_tagged_in_some p ss) (new_level_count p (first_state ss)) 0
