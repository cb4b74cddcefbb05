-- The set of cells that rows of truth values stand for: row y, entry x, both counted from 0.
use Rattle.std.specs.Prelude.{◌≡◌, ℕ, ◌-ℤ◌, pos, Bool, false, List, [], ◌∷◌, map, length, slice_index_or}
use Rattle.std.specs.List.{All, filter}
use Rattle.std.specs.Global.{Vec}
use Rattle.std.specs.Vec.{vec_len}
use Rattle.amr_box.specs.declared.Cell.{Cell}
use Rattle.amr_box.specs.Cells.{Extent, at_least_zero, cell, cells_of, extent}

abbrev pub Rows : Type 0
Rows = List (Vec Bool)

-- as many columns as the first row has
abbrev pub columns_of : Rows → ℕ
columns_of [] = 0
columns_of (row ∷ rows) = vec_len row

-- all rows have one length
abbrev pub HasEvenRows : Rows → Type 0
HasEvenRows rows = All (λ row. vec_len row ≡ columns_of rows) rows

abbrev pub frame : Rows → Extent
frame rows = extent (cell (pos 0) (pos 0)) (cell (pos (columns_of rows) -ℤ pos 1) (pos (length rows) -ℤ pos 1))

-- the entry in row j and column i
abbrev pub entry : Rows → ℕ → ℕ → Bool
entry rows j i = slice_index_or (slice_index_or (map (λ row. row.items) rows) j []) i false

abbrev pub is_set : Rows → Cell → Bool
is_set rows c = entry rows (at_least_zero c.y) (at_least_zero c.x)

abbrev pub set_cells : Rows → List Cell
set_cells rows = filter (is_set rows) (cells_of (frame rows))
