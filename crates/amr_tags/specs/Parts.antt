-- Parts of rows of bits, and counts of their bits.
use Rattle.std.specs.Prelude.{◌≡◌, ℕ, zero, suc, ◌+◌, ◌*◌, ◌/◌, ◌<◌, ◌≤◌, pos, ◌-ℤ◌, Bool, cond, ◌&&◌, ◌||◌, ◌==◌, List, nat_le}
use Rattle.amr_box.specs.declared.Cell.{Cell}
use Rattle.amr_box.specs.Cells.{Extent, height, holds, width}
use Rattle.amr_tags.specs.Bits.{bit_of, words_for}
use Rattle.amr_tags.specs.TagSets.{column_in, row_in}

-- a bit of row j, in the columns from `low` to `high` alone
abbrev pub in_columns : ℕ → List ℕ → ℕ → ℕ → ℕ → ℕ → Bool
in_columns per_row words j low high i = bit_of per_row words i j && (nat_le low i && nat_le i high)

-- a sum over n numbers from a on
abbrev pub rows_from : (ℕ → ℕ) → ℕ → ℕ → ℕ
rows_from f a zero = 0
rows_from f a (suc n) = f a + rows_from f (a + 1) n

-- how many of the n numbers from a on pass a test
abbrev pub count_from : (ℕ → Bool) → ℕ → ℕ → ℕ
count_from p = rows_from (λ i. cond (p i) 1 0)

-- how many bits of row j are set in the columns from `low` to `high`: all of them lie in the words up to that of `high`
abbrev pub row_count : ℕ → List ℕ → ℕ → ℕ → ℕ → ℕ
row_count per_row words low high j = count_from (in_columns per_row words j low high) 0 (64 * (high / 64 + 1))

-- ---- parts that are set

-- bit i of row r, where the columns from `from` to `to` of row j are set
abbrev pub with_row : ℕ → List ℕ → ℕ → ℕ → ℕ → ℕ → ℕ → Bool
with_row per_row words j from to i r = bit_of per_row words i r || ((r == j) && (nat_le from i && nat_le i to))

-- bit i of row r, where the columns from `from` to `to` of the rows from `first` to `last` are set
abbrev pub with_part : ℕ → List ℕ → ℕ → ℕ → ℕ → ℕ → ℕ → ℕ → Bool
with_part per_row words from to first last i r = bit_of per_row words i r || ((nat_le first r && nat_le r last) && (nat_le from i && nat_le i to))

-- whether the bit of a cell of the box is set in the rows
abbrev pub in_rows : Extent → List ℕ → Cell → Bool
in_rows b words c = holds b c && bit_of (words_for (width b)) words (column_in b c) (row_in b c)

-- where a part's columns and rows begin and end, counted from the low corner of the box
pub record IsWindow (b part : Extent) (west south east north : ℕ) : Type 0 where
  pub west_is : pos west ≡ part.lo.x -ℤ b.lo.x
  pub south_is : pos south ≡ part.lo.y -ℤ b.lo.y
  pub east_is : pos east ≡ part.hi.x -ℤ b.lo.x
  pub north_is : pos north ≡ part.hi.y -ℤ b.lo.y
  pub wide : west ≤ east
  pub high : south ≤ north
  pub columns : east < width b
  pub rows : north < height b
