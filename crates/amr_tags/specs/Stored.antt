-- What a set of tags stores: the words of its rows, and as many spare ones, for a box whose coordinates are near 0.
use Rattle.std.specs.Prelude.{◌≡◌, ℕ, ◌≤ℤ◌, List, length}
use Rattle.amr_box.specs.declared.Cell.{Cell}
use Rattle.amr_box.specs.Cells.{Extent, IsNear, height, width}
use Rattle.amr_tags.specs.Bits.{AreRows}

pub record IsStored (b : Extent) (words spare : List ℕ) : Type 0 where
  pub near : IsNear b
  pub rows : AreRows (width b) (height b) words
  pub room : length spare ≡ length words

-- a cell of the box, axis by axis
pub record IsIn (b : Extent) (c : Cell) : Type 0 where
  pub west : b.lo.x ≤ℤ c.x
  pub east : c.x ≤ℤ b.hi.x
  pub south : b.lo.y ≤ℤ c.y
  pub north : c.y ≤ℤ b.hi.y

-- a box whose cells are all of another
pub record IsPart (b part : Extent) : Type 0 where
  pub west : b.lo.x ≤ℤ part.lo.x
  pub south : b.lo.y ≤ℤ part.lo.y
  pub east : part.hi.x ≤ℤ b.hi.x
  pub north : part.hi.y ≤ℤ b.hi.y
  pub wide : part.lo.x ≤ℤ part.hi.x
  pub high : part.lo.y ≤ℤ part.hi.y
