-- The masses of the cells of a box of a level, by row and column.
use Rattle.std.specs.Prelude.{ℕ, pos, ◌+ℤ◌, IsTrue, IsSome}
use Rattle.amr_box.specs.declared.Cell.{Cell}
use Rattle.amr_box.specs.Cells.{Extent, cell, holds}
use Rattle.amr_def.specs.State.{mass_of}
use Rattle.amr_patch.specs.declared.levels.Level.{Level}
use Rattle.amr_patch.specs.Levels.{level_of}

-- the cells of the box are of the level
pub record HasCellsOf (level : Level) (b : Extent) : Type 0 where
  pub at : (c : Cell) → IsTrue (holds b c) → IsSome ((level_of level).masses c)

-- the mass in a row and column of the box, each counted from its low corner
abbrev pub mass_in : Level → Extent → ℕ → ℕ → ℕ
mass_in level b row column = mass_of (level_of level).masses (cell (b.lo.x +ℤ pos column) (b.lo.y +ℤ pos row))
