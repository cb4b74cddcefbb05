-- Rows of cells of a level, and lists of masses of their cells.
use Rattle.std.specs.Prelude.{◌≡◌, ℕ, ◌*◌, ◌^◌, ◌<◌, pos, ◌+ℤ◌, List, length, slice_index}
use Rattle.std.specs.Option.{unwrap_or}
use Rattle.amr_box.specs.declared.Cell.{Cell}
use Rattle.amr_box.specs.Cells.{Extent, cell}
use Rattle.amr_def.specs.State.{Masses, State}
use Rattle.amr_def.specs.View.{finest_mass}

-- a row of level l over whole columns of level 0: from column `first` up to before `after`
pub record HasWholeColumns (l : ℕ) (row : Extent) : Type 0 where
  pub first : ℕ
  pub after : ℕ
  pub west : row.lo.x ≡ pos (first * 2 ^ l)
  pub east : row.hi.x +ℤ pos 1 ≡ pos (after * 2 ^ l)
  pub flat : row.hi.y ≡ row.lo.y

-- a cell of a row, by its column from the low one
abbrev pub cell_at : Extent → ℕ → Cell
cell_at row k = cell (row.lo.x +ℤ pos k) row.lo.y

-- the masses of a level are laid over others: a cell that isn't of the level keeps what it had
abbrev pub AreLaid : Masses → Extent → List ℕ → List ℕ → Type 0
AreLaid m row old new = (k : ℕ) → k < length new → slice_index new k ≡ unwrap_or (m (cell_at row k)) (slice_index old k)

-- each cell of a row has its finest mass
abbrev pub AreFinest : State → ℕ → Extent → List ℕ → Type 0
AreFinest s l row masses = (k : ℕ) → k < length masses → slice_index masses k ≡ finest_mass s l (cell_at row k)
