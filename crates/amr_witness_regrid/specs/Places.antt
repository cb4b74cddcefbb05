-- Where cells and boxes lie, as private calls need it.
use Rattle.std.specs.Prelude.{◌≡◌, ℕ, ◌<◌, true, pos, neg_ℤ, ◌+ℤ◌, ◌≤ℤ◌, List, length, map, slice_index_or, is_some}
use Rattle.std.specs.List.{All, range_with_len}
use Rattle.amr_box.specs.declared.Cell.{Cell}
use Rattle.amr_box.specs.Cells.{cell, Extent, IsNear, width, in_boxes, square}
use Rattle.amr_def.specs.declared.problem.Problem.{Problem}
use Rattle.amr_def.specs.State.{Masses, Level, no_level}
use Rattle.amr_witness.specs.Parts.{IsInDomain}
use Rattle.amr_witness_regrid.specs.declared.cells.Offsets.{Offsets}

-- coordinates from -n to n
pub record IsUpTo (n : ℕ) (c : Cell) : Type 0 where
  pub west : neg_ℤ (pos n) ≤ℤ c.x
  pub east : c.x ≤ℤ pos n
  pub south : neg_ℤ (pos n) ≤ℤ c.y
  pub north : c.y ≤ℤ pos n

abbrev pub cell_in : Extent → ℕ → ℕ → Cell
cell_in b i j = cell (b.lo.x +ℤ pos i) (b.lo.y +ℤ pos j)

-- row j of a box
abbrev pub row_of : Extent → ℕ → List Cell
row_of b j = map (λ i. cell_in b i j) (range_with_len 0 (width b))

-- the cells of a level lie in its domain
pub record HasCellsInside (p : Problem) (l : ℕ) (m : Masses) : Type 0 where
  pub at : (c : Cell) → is_some (m c) ≡ true → IsInDomain p l c

pub record AreInside (p : Problem) (ks : List Level) : Type 0 where
  pub at : (l : ℕ) → l < length ks → HasCellsInside p l (slice_index_or ks l no_level).masses

-- the offsets of a problem's buffer, and of the cells at most one away
pub record AreOffsets (p : Problem) (o : Offsets) : Type 0 where
  pub buffer : o.buffer.items ≡ square p.n_error_buf
  pub ring : o.ring.items ≡ square 1

-- the masses of a level are those of its boxes' cells, and its boxes lie near 0
pub record HasBoxes (k : Level) : Type 0 where
  pub near : All IsNear k.boxes
  pub at : (c : Cell) → is_some (k.masses c) ≡ in_boxes k.boxes c
