-- What the state that is put last is kept in: nothing, a copy, or the mesh of an older state on the same boxes.
use Rattle.std.specs.Prelude.{◌≡◌, Bool, true, false, ⊤, List, map, Option, Some, None}
use Rattle.amr_box.specs.Cells.{Extent}
use Rattle.amr_patch.specs.declared.levels.Level.{Level}
use Rattle.amr_patch.specs.declared.meshes.Mesh.{Mesh}
use Rattle.amr_patch.specs.Levels.{level_of, patches_of}
use Rattle.amr_patch.specs.Meshes.{is_spent, levels_of, state_of}
use Rattle.amr_patch.specs.Patches.{box}
use Rattle.amr_checkpoint.specs.declared.exchange.Place.{Place}
use Rattle.amr_checkpoint.specs.declared.exchange.Place.TheVariants.{Nowhere, Copy, Older}

-- the boxes of a level and of its patches
pub record Shape : Type 0 where
  pub boxes : List Extent
  pub patches : List Extent

abbrev pub shape_of : Level → Shape
shape_of l = record { boxes = (level_of l).boxes; patches = map box (patches_of l) }

-- a mesh is not spent, and on the boxes of another one
pub record IsOnSameBoxes (old mesh : Mesh) : Type 0 where
  pub whole : is_spent old ≡ false
  pub shapes : map shape_of (levels_of old) ≡ map shape_of (levels_of mesh)

-- a state is kept in the place
abbrev pub is_kept : Place → Bool
is_kept Nowhere = false
is_kept (Copy copy) = true
is_kept (Older rows) = true

-- the state of a mesh has the place, where an older state may be there
abbrev pub FitsPlace : Mesh → Option Mesh → Place → Type 0
FitsPlace mesh old Nowhere = ⊤
FitsPlace mesh old (Copy copy) = (state_of copy ≡ state_of mesh) × (is_spent copy ≡ false)
FitsPlace mesh None (Older rows) = ⊥
FitsPlace mesh (Some old) (Older rows) = (rows.items ≡ (state_of mesh).rows) × IsOnSameBoxes old mesh
