-- What a list of cells holds while cells are added to it.
use Rattle.std.specs.Prelude.{◌≡◌, ℕ, ◌<◌, Bool, true, ◌⊎◌, pos, ◌+ℤ◌, ◌-ℤ◌, List}
use Rattle.std.specs.List.{Contains}
use Rattle.amr_box.specs.declared.Cell.{Cell}
use Rattle.amr_box.specs.Cells.{Extent, cell, height, width}
use Rattle.amr_def.specs.Domain.{Domain, home_cell}

-- cells that pass a test were added, and no others
pub record Collects (test : Cell → Bool) (old new : List Cell) : Type 0 where
  pub kept : (q : Cell) → Contains old q → Contains new q
  pub passing : (q : Cell) → Contains new q → Contains old q ⊎ (test q ≡ true)

-- the cell is there if it passes
abbrev pub Finds : (Cell → Bool) → Cell → List Cell → Type 0
Finds test c cs = test c ≡ true → Contains cs c

-- so are the cells left and right of the first n rows of a box, and those below and above its first n columns
pub record FindsLeftAndRight (d : Domain) (test : Cell → Bool) (b : Extent) (n : ℕ) (cs : List Cell) : Type 0 where
  pub left : (j : ℕ) → j < n → Finds test (home_cell d (cell (b.lo.x -ℤ pos 1) (b.lo.y +ℤ pos j))) cs
  pub right : (j : ℕ) → j < n → Finds test (home_cell d (cell (b.hi.x +ℤ pos 1) (b.lo.y +ℤ pos j))) cs

pub record FindsBelowAndAbove (d : Domain) (test : Cell → Bool) (b : Extent) (n : ℕ) (cs : List Cell) : Type 0 where
  pub below : (i : ℕ) → i < n → Finds test (home_cell d (cell (b.lo.x +ℤ pos i) (b.lo.y -ℤ pos 1))) cs
  pub above : (i : ℕ) → i < n → Finds test (home_cell d (cell (b.lo.x +ℤ pos i) (b.hi.y +ℤ pos 1))) cs

-- and all cells beside a box
pub record FindsAround (d : Domain) (test : Cell → Bool) (b : Extent) (cs : List Cell) : Type 0 where
  pub rows : FindsLeftAndRight d test b (height b) cs
  pub columns : FindsBelowAndAbove d test b (width b) cs
