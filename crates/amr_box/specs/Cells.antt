-- Cells and boxes of cells, as BoxLib has them: cell-centred boxes, refine, coarsen, grow, chop.
--     Extent            a box by its corners, both inside
--     holds             its cells, as a test
--     cells_of          its cells, as a list
--     parent, child     of a cell, on the next coarser and the next finer level
use Rattle.std.specs.Prelude.{◌≡◌, ℕ, ◌+◌, ◌/◌, ◌%◌, Bool, false, ◌&&◌, ◌||◌, ℤ, pos, negsuc, ◌+ℤ◌, ◌-ℤ◌, ◌≤ℤ◌, ◌<ℤ◌, int_le, List, map, IsTrue}
use Rattle.std.specs.Int.{int_div_euclid, int_max, int_min}
use Rattle.std.specs.List.{flat_map, list_any, range_with_len}
use Rattle.std.specs.declared.cmp.Ordering.{Ordering}
use Rattle.std.specs.Ordering.{int_cmp, int_eq, ordering_then}
use Rattle.amr_box.specs.declared.Cell.{Cell}
use Rattle.amr_box.specs.declared.Axis.{Axis}
use Rattle.amr_box.specs.declared.Axis.TheVariants.{X, Y}

-- ---- cells

abbrev pub cell : ℤ → ℤ → Cell
cell x y = record { x = x; y = y }

-- by column, then by row: the order of the type `Cell`
abbrev pub cell_cmp : Cell → Cell → Ordering
cell_cmp a b = ordering_then (int_cmp a.x b.x) (int_cmp a.y b.y)

-- whether two cells have one column and one row
abbrev pub is_same_cell : Cell → Cell → Bool
is_same_cell a b = int_eq a.x b.x && int_eq a.y b.y

-- a cell and an offset
abbrev pub moved : Cell → Cell → Cell
moved c o = cell (c.x +ℤ o.x) (c.y +ℤ o.y)

-- where a cell stands along an axis: its column or its row
abbrev pub along : Axis → Cell → ℤ
along X c = c.x
along Y c = c.y

-- half of a number, towards minus infinity
abbrev pub half : ℤ → ℤ
half z = int_div_euclid z (pos 2)

-- the cell of the next coarser level that a cell lies in
abbrev pub parent : Cell → Cell
parent c = cell (half c.x) (half c.y)

-- one of the four cells of the next finer level in a cell: column k mod 2, row k div 2 of the four
abbrev pub child : Cell → ℕ → Cell
child c k = cell (c.x +ℤ c.x +ℤ pos (k % 2)) (c.y +ℤ c.y +ℤ pos (k / 2))

abbrev pub has_child_where : (Cell → Bool) → Cell → Bool
has_child_where test c = test (child c 0) || test (child c 1) || test (child c 2) || test (child c 3)

-- ---- boxes

-- a box, by its low and its high corner, both inside
pub record Extent : Type 0 where
  pub lo : Cell
  pub hi : Cell

abbrev pub extent : Cell → Cell → Extent
extent lo hi = record { lo = lo; hi = hi }

-- the corners are in order, so that the box has a cell
pub record IsProper (b : Extent) : Type 0 where
  pub wide : b.lo.x ≤ℤ b.hi.x
  pub high : b.lo.y ≤ℤ b.hi.y

-- whether the corners are in order
abbrev pub is_proper : Extent → Bool
is_proper b = int_le b.lo.x b.hi.x && int_le b.lo.y b.hi.y

-- how far from 0 the coordinates of a near box lie, 2^24: boxes that are grown or refined fit 32 bits. (profile)
abbrev pub near_limit : ℕ
near_limit = 16777216

-- proper, and coordinates lie between -2^24 and 2^24
pub record IsNear (b : Extent) : Type 0 where
  pub west : negsuc near_limit <ℤ b.lo.x
  pub east : b.hi.x <ℤ pos (near_limit + 1)
  pub south : negsuc near_limit <ℤ b.lo.y
  pub north : b.hi.y <ℤ pos (near_limit + 1)
  pub wide : b.lo.x ≤ℤ b.hi.x
  pub high : b.lo.y ≤ℤ b.hi.y

-- whether a number is from low to high, both inside
abbrev pub within : ℤ → ℤ → ℤ → Bool
within low high z = int_le low z && int_le z high

-- whether a cell is in a box
abbrev pub holds : Extent → Cell → Bool
holds b c = within b.lo.x b.hi.x c.x && within b.lo.y b.hi.y c.y

-- whether a cell is in one of the boxes
abbrev pub in_boxes : List Extent → Cell → Bool
in_boxes bs c = list_any (λ b. holds b c) bs

-- no cell is in both boxes
abbrev pub AreDisjoint : Extent → Extent → Type 0
AreDisjoint a b = (c : Cell) → (holds a c && holds b c) ≡ false

-- a box is the set of the cells that pass the test
pub record IsBoxOf (b : Extent) (test : Cell → Bool) : Type 0 where
  pub at : (c : Cell) → holds b c ≡ test c

-- a number, or 0 in place of one below 0
abbrev pub at_least_zero : ℤ → ℕ
at_least_zero (pos n) = n
at_least_zero (negsuc n) = 0

-- how many columns and rows a box has: none where the corners are out of order
abbrev pub width : Extent → ℕ
width b = at_least_zero (b.hi.x +ℤ pos 1 -ℤ b.lo.x)

abbrev pub height : Extent → ℕ
height b = at_least_zero (b.hi.y +ℤ pos 1 -ℤ b.lo.y)

-- the cells of a box, row by row from the low row, within a row from the low column
abbrev pub cells_of : Extent → List Cell
cells_of b = flat_map (λ j. map (λ i. cell (b.lo.x +ℤ pos i) (b.lo.y +ℤ pos j)) (range_with_len 0 (width b))) (range_with_len 0 (height b))

-- the offsets of the cells at most n away on both axes
abbrev pub square : ℕ → List Cell
square n = cells_of (extent (cell (pos 0 -ℤ pos n) (pos 0 -ℤ pos n)) (cell (pos n) (pos n)))

-- the box from the parent of the low corner to that of the high one: the parents of a box's cells
abbrev pub parents_of : Extent → Extent
parents_of b = extent (parent b.lo) (parent b.hi)

-- ---- what the calls on boxes give

-- a box with these low and high columns and rows
pub record HasCorners (b : Extent) (west south east north : ℤ) : Type 0 where
  pub west_is : b.lo.x ≡ west
  pub south_is : b.lo.y ≡ south
  pub east_is : b.hi.x ≡ east
  pub north_is : b.hi.y ≡ north

-- the corners of what is in both boxes, out of order where nothing is
abbrev pub common : Extent → Extent → Extent
common a b = extent (cell (int_max a.lo.x b.lo.x) (int_max a.lo.y b.lo.y)) (cell (int_min a.hi.x b.hi.x) (int_min a.hi.y b.hi.y))

-- the cells at most n away from a cell in each axis
abbrev pub square_round : ℕ → Cell → Extent
square_round n c = extent (cell (c.x -ℤ pos n) (c.y -ℤ pos n)) (cell (c.x +ℤ pos n) (c.y +ℤ pos n))

-- a cell of the box is at most n away from this one in each axis
abbrev pub HoldsNear : ℕ → Extent → Cell → Type 0
HoldsNear n b c = (d : Cell) × IsTrue (holds b d) × IsTrue (holds (square_round n d) c)

-- the part of a box below a column or a row, and the rest
abbrev pub below_cut : Axis → ℤ → Extent → Extent
below_cut X i b = extent b.lo (cell (i -ℤ pos 1) b.hi.y)
below_cut Y i b = extent b.lo (cell b.hi.x (i -ℤ pos 1))

abbrev pub from_cut : Axis → ℤ → Extent → Extent
from_cut X i b = extent (cell i b.lo.y) b.hi
from_cut Y i b = extent (cell b.lo.x i) b.hi
