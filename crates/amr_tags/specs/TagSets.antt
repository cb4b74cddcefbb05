-- Tags: a set of cells of a box, whose axes are periodic or open, as rows of bits.
use Rattle.std.specs.Prelude.{◌≡◌, ℕ, Bool, true, false, ◌&&◌, ℤ, pos, ◌+ℤ◌, ◌-ℤ◌, List, unsigned_abs}
use Rattle.std.specs.List.{list_any}
use Rattle.std.specs.Int.{int_rem_euclid}
use Rattle.amr_box.specs.declared.Cell.{Cell}
use Rattle.amr_box.specs.Cells.{Extent, IsNear, cell, height, holds, moved, square, width}
use Rattle.amr_tags.specs.Bits.{AreRows, bit_of, words_for}

pub record TagSet : Type 0 where
  pub bx : Extent
  pub wrap_x : Bool
  pub wrap_y : Bool
  pub words : List ℕ

abbrev pub tag_set : Extent → Bool → Bool → List ℕ → TagSet
tag_set b x y words = record { bx = b; wrap_x = x; wrap_y = y; words = words }

-- where a cell of the box stands in its row, and in which row
abbrev pub column_in : Extent → Cell → ℕ
column_in b c = unsigned_abs (c.x -ℤ b.lo.x)

abbrev pub row_in : Extent → Cell → ℕ
row_in b c = unsigned_abs (c.y -ℤ b.lo.y)

-- whether a cell is tagged: never outside of the box
abbrev pub has : TagSet → Cell → Bool
has t c = holds t.bx c && bit_of (words_for (width t.bx)) t.words (column_in t.bx c) (row_in t.bx c)

-- the rows' layout
pub record IsLaidOut (t : TagSet) : Type 0 where
  pub near : IsNear t.bx
  pub rows : AreRows (width t.bx) (height t.bx) t.words

-- the same box and axes
pub record SameShape (s t : TagSet) : Type 0 where
  pub bx : t.bx ≡ s.bx
  pub x : t.wrap_x ≡ s.wrap_x
  pub y : t.wrap_y ≡ s.wrap_y

-- the least box round the cells that pass a test: it holds them all, and one stands at each side
pub record IsLeastBox (b : Extent) (test : Cell → Bool) : Type 0 where
  pub inside : (c : Cell) → test c ≡ true → holds b c ≡ true
  pub west : (c : Cell) × (test c ≡ true) × (c.x ≡ b.lo.x)
  pub south : (c : Cell) × (test c ≡ true) × (c.y ≡ b.lo.y)
  pub east : (c : Cell) × (test c ≡ true) × (c.x ≡ b.hi.x)
  pub north : (c : Cell) × (test c ≡ true) × (c.y ≡ b.hi.y)

-- ---- grown tags (Berger and Colella's buffer)

-- a coordinate, on a periodic axis taken modulo the number of cells
abbrev pub wrapped : Bool → ℤ → ℕ → ℤ → ℤ
wrapped true low n z = low +ℤ int_rem_euclid (z -ℤ low) (pos n)
wrapped false low n z = z

-- the cell of the box that a cell stands for
abbrev pub home : TagSet → Cell → Cell
home t c = cell (wrapped t.wrap_x t.bx.lo.x (width t.bx) c.x) (wrapped t.wrap_y t.bx.lo.y (height t.bx) c.y)

-- whether a tagged cell is at most n away on both axes, past the end of a periodic axis too
abbrev pub is_near_tag : TagSet → ℕ → Cell → Bool
is_near_tag t n c = list_any (λ o. has t (home t (moved c o))) (square n)
