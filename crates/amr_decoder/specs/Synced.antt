-- Cells that have the mass of their children.
use Rattle.std.specs.Prelude.{◌≡◌, ℕ, ◌+◌, ◌*◌, pos, ◌+ℤ◌, List, slice_index}
use Rattle.amr_box.specs.declared.Cell.{Cell}
use Rattle.amr_box.specs.Cells.{Extent, cell}
use Rattle.amr_patch.specs.BoxRows.{HasCellsOf}
use Rattle.amr_def.specs.State.{Masses, children_mass, mass_of}
use Rattle.amr_patch.specs.declared.levels.Level.{Level}
use Rattle.amr_patch.specs.Levels.{level_of}
use Rattle.amr_decoder.specs.Filled.{IsPlaced}

pub record IsSum (coarse fine : Masses) (c : Cell) : Type 0 where
  pub at : mass_of coarse c ≡ children_mass fine c

-- of the cell in a row and column of a box, each counted from its low corner
abbrev pub IsSumAt : Level → Level → Extent → ℕ → ℕ → Type 0
IsSumAt coarse fine b row column = IsSum (level_of coarse).masses (level_of fine).masses (cell (b.lo.x +ℤ pos column) (b.lo.y +ℤ pos row))

-- two neighbours of a row and the two above them, the k-th four of the rows
abbrev pub four_at : List ℕ → List ℕ → ℕ → ℕ
four_at lower upper k = slice_index lower (2 * k) + slice_index lower (2 * k + 1) + slice_index upper (2 * k) + slice_index upper (2 * k + 1)

-- a box of the finer level, and its parents in the coarser one, of each of which it has all children
pub record IsOver (coarse fine : Level) (b parents : Extent) : Type 0 where
  pub children : IsPlaced b
  pub placed : IsPlaced parents
  pub west : b.lo.x ≡ parents.lo.x +ℤ parents.lo.x
  pub south : b.lo.y ≡ parents.lo.y +ℤ parents.lo.y
  pub east : b.hi.x ≡ parents.hi.x +ℤ parents.hi.x +ℤ pos 1
  pub north : b.hi.y ≡ parents.hi.y +ℤ parents.hi.y +ℤ pos 1
  pub fine_cells : HasCellsOf fine b
  pub coarse_cells : HasCellsOf coarse parents
