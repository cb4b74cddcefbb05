-- What a regrid makes of meshes, before it is put in place and after.
use Rattle.std.specs.Prelude.{◌≡◌, ◌≤◌, false, List, [], length, map, vec_capacity}
use Rattle.std.specs.List.{All}
use Rattle.amr_box.specs.Cells.{Extent}
use Rattle.amr_def.specs.declared.problem.Problem.{Problem}
use Rattle.amr_def.specs.Regrid.{regridded_levels}
use Rattle.amr_patch.specs.declared.meshes.Mesh.{Mesh}
use Rattle.amr_patch.specs.Levels.{level_of}
use Rattle.amr_patch.specs.Meshes.{is_spent, levels_of, state_of}
use Rattle.amr_regrid.specs.declared.plans.Plan.{Plan}
use Rattle.amr_regrid.specs.Remade.{IsChoppedIfMade, remade_levels}

-- the levels that there will be fit the memory that is taken for their list
pub record HasRoom (r : Plan) : Type 0 where
  pub empty : r.room.items ≡ []
  pub fits : length r.remade.items ≤ vec_capacity r.room

-- a mesh, regridded to these boxes above level 0
pub record IsPlanFor (p : Problem) (boxes : List (List Extent)) (m : Mesh) (r : Plan) : Type 0 where
  pub room : HasRoom r
  pub levels : map level_of (remade_levels (levels_of m) r.remade.items) ≡ regridded_levels (state_of m).levels boxes
  pub chopped : All (IsChoppedIfMade p.max_grid_size) r.remade.items

-- a plan, put in place
pub record IsInstalled (r : Plan) (old new : Mesh) : Type 0 where
  pub state : state_of new ≡ record { step = (state_of old).step; rows = (state_of old).rows; levels = map level_of (levels_of new) }
  pub levels : levels_of new ≡ remade_levels (levels_of old) r.remade.items
  pub whole : is_spent new ≡ false
