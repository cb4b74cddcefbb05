-- Pairs of neighbours whose values differ by a threshold or more, and the tags of their cells.
use Rattle.std.specs.Prelude.{◌≡◌, ℕ, ◌<◌, Bool, ◌&&◌, ◌||◌, pos, ◌+ℤ◌, ◌-ℤ◌, ◌<ℤ◌, List, length, slice_index}
use Rattle.amr_box.specs.declared.Cell.{Cell}
use Rattle.amr_box.specs.declared.Axis.{Axis}
use Rattle.amr_box.specs.declared.Axis.TheVariants.{X, Y}
use Rattle.amr_box.specs.Cells.{Extent, cell, extent, holds}
use Rattle.amr_def.specs.Tags.{differs_by}
use Rattle.amr_tags.specs.TagSets.{SameShape, TagSet, has}

-- the cell that lies k cells on in a row
abbrev pub ahead : Cell → ℕ → Cell
ahead c k = cell (c.x +ℤ pos k) c.y

-- the cell beside another along an axis, on its high side and on its low side
abbrev pub after : Axis → Cell → Cell
after X c = cell (c.x +ℤ pos 1) c.y
after Y c = cell c.x (c.y +ℤ pos 1)

abbrev pub before : Axis → Cell → Cell
before X c = cell (c.x -ℤ pos 1) c.y
before Y c = cell c.x (c.y -ℤ pos 1)

-- so many columns and rows of cells from a cell on
abbrev pub region : Cell → ℕ → ℕ → Extent
region c columns rows = extent c (cell (c.x +ℤ pos columns -ℤ pos 1) (c.y +ℤ pos rows -ℤ pos 1))

-- the cells of a box and those after them
abbrev pub with_after : Axis → Extent → Extent
with_after axis b = extent b.lo (after axis b.hi)

-- whether the values of a cell and of the one after it differ by the threshold or more
abbrev pub is_steep : ℕ → (Cell → ℕ) → Axis → Cell → Bool
is_steep threshold value axis c = differs_by threshold (value c) (value (after axis c))

-- whether a cell is one of such a pair, of which the first cell is in a box
unfoldable pub in_steep_pair : ℕ → (Cell → ℕ) → Axis → Extent → Cell → Bool
in_steep_pair threshold value axis firsts c =
    (holds firsts c && is_steep threshold value axis c) || (holds firsts (before axis c) && is_steep threshold value axis (before axis c))

-- the cells of the set's box that pass a test are added to the set
pub record IsJoined (wanted : Cell → Bool) (s t : TagSet) : Type 0 where
  pub shape : SameShape s t
  pub cells : (c : Cell) → has t c ≡ (has s c || (holds s.bx c && wanted c))

-- the values of the cells of a row from a cell on, and of those after them
pub record AreAlong (value : Cell → ℕ) (axis : Axis) (from : Cell) (first second : List ℕ) : Type 0 where
  pub firsts : (k : ℕ) → k < length first → slice_index first k ≡ value (ahead from k)
  pub seconds : (k : ℕ) → k < length first → slice_index second k ≡ value (after axis (ahead from k))

-- coordinates are below a bound
pub record IsBelow (bound : ℕ) (c : Cell) : Type 0 where
  pub x : c.x <ℤ pos bound
  pub y : c.y <ℤ pos bound
