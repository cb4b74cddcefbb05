-- Lists of boxes, seen as the sets of their cells.
use Rattle.std.specs.Prelude.{ℕ, ◌+◌, ◌≤◌, cond, List, [], ◌∷◌}
use Rattle.amr_box.specs.declared.Cell.{Cell}
use Rattle.amr_box.specs.Cells.{Extent, holds}

-- how many of the boxes a cell is in
abbrev pub holders : List Extent → Cell → ℕ
holders [] c = 0
holders (b ∷ bs) c = cond (holds b c) 1 0 + holders bs c

-- no cell is in two of the boxes
abbrev pub AreApart : List Extent → Type 0
AreApart bs = (c : Cell) → holders bs c ≤ 1
