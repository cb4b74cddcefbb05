-- The state that a mesh holds.
use Rattle.std.specs.Prelude.{Bool, List, map}
use Rattle.amr_def.specs.State.{State}
use Rattle.amr_patch.specs.declared.levels.Level.{Level}
use Rattle.amr_patch.specs.declared.meshes.Mesh.{Mesh}
use Rattle.amr_patch.specs.Levels.{level_of}

unfoldable pub state_of : Mesh → State
state_of m = record { step = m.step; rows = m.rows.items; levels = map level_of m.levels.items }

-- its levels, with the patches that hold them
unfoldable pub levels_of : Mesh → List Level
levels_of m = m.levels.items

-- whether its rows and levels are taken
unfoldable pub is_spent : Mesh → Bool
is_spent m = m.spent
