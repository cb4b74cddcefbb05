-- Sets of cells as rows of bits: bit i of a row is bit i mod 64 of its word i div 64. The rows stand one after another, each in
-- `per_row` words; columns and rows are counted from 0.
use Rattle.std.specs.Prelude.{ℕ, ◌+◌, ◌-◌, ◌*◌, ◌/◌, ◌%◌, ◌==◌, ◌&&◌, ◌≤ℤ◌, ◌<ℤ◌, pos, nat_le, nat_lt, Bool, List, length, slice_index}
use Rattle.std.specs.Int.{bit_at}
use Rattle.std.specs.List.{filter}
use Rattle.amr_box.specs.declared.Cell.{Cell}
use Rattle.amr_box.specs.Cells.{Extent, at_least_zero, cells_of}

-- whether bit i of a row of words is 1
abbrev pub row_bit : List ℕ → ℕ → Bool
row_bit row i = bit_at (slice_index row (i / 64)) (i % 64) == 1

-- whether the bit in column x of row y is 1
abbrev pub bit_of : ℕ → List ℕ → ℕ → ℕ → Bool
bit_of per_row words x y = bit_at (slice_index words (y * per_row + x / 64)) (x % 64) == 1

-- whether the bit of a cell is 1
abbrev pub is_bit_set : List ℕ → ℕ → Cell → Bool
is_bit_set words per_row c = bit_of per_row words (at_least_zero c.x) (at_least_zero c.y)

-- the cells of a box whose bits are 1
abbrev pub bit_cells : List ℕ → ℕ → Extent → List Cell
bit_cells words per_row part = filter (is_bit_set words per_row) (cells_of part)

-- a box lies in the rows
pub record LiesInRows (words : List ℕ) (per_row : ℕ) (part : Extent) : Type 0 where
  pub west : pos 0 ≤ℤ part.lo.x
  pub east : part.hi.x <ℤ pos (64 * per_row)
  pub south : pos 0 ≤ℤ part.lo.y
  pub north : part.hi.y <ℤ pos (length words / per_row)

-- the bit at place x of a row of which a word stands at the places from `base` on
abbrev pub word_bit : ℕ → ℕ → ℕ → Bool
word_bit word base x = (nat_le base x && nat_lt x (base + 64)) && (bit_at word (x - base) == 1)
