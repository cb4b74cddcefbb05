-- Where the cells of a set begin and end along an axis.
use Rattle.std.specs.Prelude.{◌≡◌, Bool, true, ◌&&◌, ℕ, ℤ, ◌≤ℤ◌, List}
use Rattle.amr_box.specs.declared.Axis.{Axis}
use Rattle.amr_box.specs.declared.Cell.{Cell}
use Rattle.amr_box.specs.Cells.{along, Extent, holds, width}
use Rattle.amr_tags.specs.Bits.{bit_of, words_for}
use Rattle.amr_tags.specs.TagSets.{column_in, row_in}

-- a cell of a part of the box whose bit is set in the rows
abbrev pub in_part : Extent → List ℕ → Extent → Cell → Bool
in_part b words part c = holds part c && bit_of (words_for (width b)) words (column_in b c) (row_in b c)

pub record HasOne (test : Cell → Bool) : Type 0 where
  pub at : (c : Cell) × (test c ≡ true)

-- along an axis: no cell of the set lies below a coordinate, and one lies at it or below
pub record HasNoneBelow (test : Cell → Bool) (axis : Axis) (low : ℤ) : Type 0 where
  pub from : (c : Cell) → test c ≡ true → low ≤ℤ along axis c

pub record HasOneUpTo (test : Cell → Bool) (axis : Axis) (high : ℤ) : Type 0 where
  pub at : (c : Cell) × (test c ≡ true) × (along axis c ≤ℤ high)

-- none lies above, and one lies at it or above
pub record HasNoneAbove (test : Cell → Bool) (axis : Axis) (high : ℤ) : Type 0 where
  pub to : (c : Cell) → test c ≡ true → along axis c ≤ℤ high

pub record HasOneFrom (test : Cell → Bool) (axis : Axis) (low : ℤ) : Type 0 where
  pub at : (c : Cell) × (test c ≡ true) × (low ≤ℤ along axis c)
