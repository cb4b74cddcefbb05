-- Strips of cells along an axis.
use Rattle.std.specs.Prelude.{◌≡◌, ◌≢◌, ℕ, ◌+◌, ◌*◌, ◌<◌, pos, ◌+ℤ◌, ◌<ℤ◌, List, length, slice_index_or}
use Rattle.amr_box.specs.declared.Cell.{Cell}
use Rattle.amr_box.specs.declared.Axis.{Axis}
use Rattle.amr_box.specs.declared.Axis.TheVariants.{X, Y}
use Rattle.amr_box.specs.Cells.{cell, near_limit}
use Rattle.amr_ghost.specs.declared.entries.Entries.{Entries}

-- the cell that lies k cells from another along an axis
abbrev pub step : Axis → Cell → ℕ → Cell
step X c k = cell (c.x +ℤ pos k) c.y
step Y c k = cell c.x (c.y +ℤ pos k)

-- a strip may go on from a cell: its coordinates are at most 2^25
pub record HasRoom (c : Cell) : Type 0 where
  pub x : c.x <ℤ pos (2 * near_limit + 1)
  pub y : c.y <ℤ pos (2 * near_limit + 1)

-- where the entry of the k-th cell of a strip stands in a list
abbrev pub nth_place : Entries → ℕ → ℕ
nth_place e k = e.first + k * e.stride

-- the entries of the first cells of a strip are written; the list keeps its length and its other entries
pub record AreWritten {A : Type 0} (absent : A) (e : Entries) (count : ℕ) (given : ℕ → A) (xs ys : List A) : Type 0 where
  pub same_length : length ys ≡ length xs
  pub written : (k : ℕ) → k < count → slice_index_or ys (nth_place e k) absent ≡ given k
  pub others : (j : ℕ) → ((k : ℕ) → k < count → j ≢ nth_place e k) → slice_index_or ys j absent ≡ slice_index_or xs j absent
