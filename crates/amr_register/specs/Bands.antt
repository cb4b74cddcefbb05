-- Bands: the register cells of some rows, with their sides.
use Rattle.std.specs.Prelude.{◌≡◌, ℕ, ◌+◌, ◌*◌, ◌<◌, ◌&&◌, ℤ, pos, ◌-ℤ◌, List, length, slice_index_or, IfOk, Result}
use Rattle.amr_causes.specs.declared.no_memory.NoMemory.{NoMemory}
use Rattle.amr_box.specs.declared.Cell.{Cell}
use Rattle.amr_box.specs.Cells.{within}
use Rattle.amr_def.specs.declared.problem.Problem.{Problem}
use Rattle.amr_def.specs.Domain.{cells_where, domain}
use Rattle.amr_def.specs.State.{Masses, is_covered}
use Rattle.amr_register.specs.declared.bands.Band.{Band}
use Rattle.amr_register.specs.RegisterCells.{is_register_cell, register_cells}
use Rattle.amr_register.specs.Beside.{HaveSides}

-- the register cells of level l from one row to another, in order
abbrev pub cells_between : Problem → ℕ → Masses → Masses → ℤ → ℤ → List Cell
cells_between p l m fine first last = cells_where (domain p l) (λ c. within first last c.y && is_register_cell (domain p l) m fine c)

-- a band has these cells, and the sides of each
pub record HasCells (p : Problem) (l : ℕ) (fine : Masses) (cs : List Cell) (b : Band) : Type 0 where
  pub cells : b.cells.items ≡ cs
  pub sides : HaveSides (domain p l) (is_covered fine) b.cells.items b.sides.items
  pub side_count : length b.sides.items ≡ length b.cells.items

-- those from one row to another
abbrev pub IsBandOf : Problem → ℕ → Masses → Masses → ℤ → ℤ → Band → Type 0
IsBandOf p l m fine first last b = HasCells p l fine (cells_between p l m fine first last) b

-- all register cells
abbrev pub IsWhole : Problem → ℕ → Masses → Masses → Band → Type 0
IsWhole p l m fine b = HasCells p l fine (register_cells p l m fine) b

-- each that was found is that of its belt, of those of so many rows
abbrev pub AreBandsOf : Problem → ℕ → Masses → Masses → ℕ → List (Result Band NoMemory) → Type 0
AreBandsOf p l m fine size bs =
    (k : ℕ) (b : Result Band NoMemory) → k < length bs → IfOk (slice_index_or bs k b) (IsBandOf p l m fine (pos (k * size)) (pos ((k + 1) * size) -ℤ pos 1))
