-- The entries of a patch's lists, and its cells and faces.
use Rattle.std.proofs.Common.{◌≡◌, ℕ, ◌+◌, ◌<◌, ◌≤◌, Bool, false, ℤ, pos, ◌+ℤ◌, ◌-ℤ◌, List, refl, sym, ap, ◌∙◌, arith}
use Rattle.std.specs.Prelude.{slice_index, slice_index_or}
use Rattle.std.proofs.lemmas.Int.{ints}
use Rattle.amr_box.specs.declared.Cell.{Cell}
use Rattle.amr_box.specs.declared.Axis.TheVariants.{X, Y}
use Rattle.amr_box.specs.Cells.{Extent, IsNear, cell, height, width}
use Rattle.amr_def.specs.declared.problem.Problem.{Problem}
use Rattle.amr_def.specs.Domain.{columns, rows, domain}
use Rattle.amr_def.specs.Flux.{face, courant}
use Rattle.amr_patch.specs.declared.patches.Patch.{Patch}
use Rattle.amr_patch.specs.Places.{place}
use Rattle.amr_patch.specs.Patches.{flux_in, value_in}
use Rattle.amr_patch.proofs.Rows.{place_is, sides, zero-cut}
use Rattle.amr_patch.proofs.Edges.{flux_x_high, flux_x_low, flux_y_high, flux_y_low}
use Rattle.amr_faces.specs.Faces.{IsInDomain}
use Rattle.amr_faces.specs.Numbers.{x_number, y_number}
use Rattle.amr_flux.specs.Tables.{Stands, mark, value}
use Rattle.amr_faces.proofs.Places.{IsFaceAt, corner}
use Rattle.amr_faces.proofs.FaceSides.{courant_of_column, courant_of_row}

-- ---- where a box of a level stands

pub column_fits : (p : Problem) (l : ℕ) (b : Extent) (column : ℕ) → IsNear b → IsInDomain (domain p l) b → pos column ≡ b.lo.x → column + width b ≤ columns p l
column_fits p l b column near lies e = let k = corner p l b near lies in let s = sides b near in omega (arith, ints, k.east, s.wide, e)

pub row_fits : (p : Problem) (l : ℕ) (b : Extent) (row : ℕ) → IsNear b → IsInDomain (domain p l) b → pos row ≡ b.lo.y → row + height b ≤ rows p l
row_fits p l b row near lies e = let k = corner p l b near lies in let s = sides b near in omega (arith, ints, k.north, s.high, e)

pub stands : (p : Problem) (l : ℕ) (b : Extent) (column row : ℕ) → IsNear b → IsInDomain (domain p l) b → pos column ≡ b.lo.x → pos row ≡ b.lo.y → Stands p l b column row
stands p l b column row near lies ex ey =
    record { x = ex; y = ey; columns_fit = column_fits p l b column near lies ex; rows_fit = row_fits p l b row near lies ey }

-- ---- a cell of the grown box by its column and row there

pub record IsAt (b : Extent) (c : Cell) (i j : ℕ) : Type 0 where
  pub x : pos i ≡ c.x -ℤ (b.lo.x -ℤ pos 1)
  pub y : pos j ≡ c.y -ℤ (b.lo.y -ℤ pos 1)

pub value_here : (q : Patch) (c : Cell) (i j : ℕ) → IsAt q.bx c i j → value_in q c ≡ value (width q.bx) q.data.value.values.items i j
unfolding value_in
value_here q c i j at = ap (slice_index q.data.value.values.items) (sym (place_is q.bx c j i (width q.bx) at.y at.x refl))

pub mark_at : (q : Patch) (marks : List Bool) (c : Cell) (i j : ℕ) → IsAt q.bx c i j → slice_index_or marks (place q.bx c) false ≡ mark (width q.bx) marks i j
mark_at q marks c i j at = ap (λ n. slice_index_or marks n false) (sym (place_is q.bx c j i (width q.bx) at.y at.x refl))

-- the flux of a face on an edge is that edge's entry
pub x_low_here : (q : Patch) (x y : ℤ) (i j : ℕ) → IsFaceAt q.bx x y i j → x ≡ q.bx.lo.x → flux_in q (face X x y) ≡ slice_index_or q.data.value.x_low.items j (pos 0)
x_low_here q x y i j at e = flux_x_low q (face X x y) refl e ∙ ap (λ n. slice_index_or q.data.value.x_low.items n (pos 0)) (zero-cut (y -ℤ q.bx.lo.y) j at.row)

pub x_high_here : (q : Patch) (x y : ℤ) (i j : ℕ) → IsFaceAt q.bx x y i j → x ≡ q.bx.hi.x +ℤ pos 1 → flux_in q (face X x y) ≡ slice_index_or q.data.value.x_high.items j (pos 0)
x_high_here q x y i j at e = flux_x_high q (face X x y) refl e ∙ ap (λ n. slice_index_or q.data.value.x_high.items n (pos 0)) (zero-cut (y -ℤ q.bx.lo.y) j at.row)

pub y_low_here : (q : Patch) (x y : ℤ) (i j : ℕ) → IsFaceAt q.bx x y i j → y ≡ q.bx.lo.y → flux_in q (face Y x y) ≡ slice_index_or q.data.value.y_low.items i (pos 0)
y_low_here q x y i j at e = flux_y_low q (face Y x y) refl e ∙ ap (λ n. slice_index_or q.data.value.y_low.items n (pos 0)) (zero-cut (x -ℤ q.bx.lo.x) i at.column)

pub y_high_here : (q : Patch) (x y : ℤ) (i j : ℕ) → IsFaceAt q.bx x y i j → y ≡ q.bx.hi.y +ℤ pos 1 → flux_in q (face Y x y) ≡ slice_index_or q.data.value.y_high.items i (pos 0)
y_high_here q x y i j at e = flux_y_high q (face Y x y) refl e ∙ ap (λ n. slice_index_or q.data.value.y_high.items n (pos 0)) (zero-cut (x -ℤ q.bx.lo.x) i at.column)

-- the cells on the two sides of a face
pub high_at : (b : Extent) (x y : ℤ) (i j : ℕ) → IsFaceAt b x y i j → IsAt b (cell x y) (i + 1) (j + 1)
high_at b x y i j at = record { x = omega (arith, ints, at.column); y = omega (arith, ints, at.row) }

pub x_low_at : (b : Extent) (x y : ℤ) (i j : ℕ) → IsFaceAt b x y i j → IsAt b (cell (x -ℤ pos 1) y) i (j + 1)
x_low_at b x y i j at = record { x = omega (arith, ints, at.column); y = omega (arith, ints, at.row) }

pub y_low_at : (b : Extent) (x y : ℤ) (i j : ℕ) → IsFaceAt b x y i j → IsAt b (cell x (y -ℤ pos 1)) (i + 1) j
y_low_at b x y i j at = record { x = omega (arith, ints, at.column); y = omega (arith, ints, at.row) }

-- ---- Courant numbers

pub x_courant_here : (p : Problem) (l : ℕ) (b : Extent) (column row : ℕ) (x y : ℤ) (i j : ℕ) → Stands p l b column row → IsFaceAt b x y i j → j < height b → courant p l (face X x y) ≡ x_number p l (row + j)
x_courant_here p l b column row x y i j s at h =
    courant_of_row p l (face X x y) (row + j) refl (omega (arith, ints, at.row, s.y)) (omega (arith, s.rows_fit, h))

pub y_courant_here : (p : Problem) (l : ℕ) (b : Extent) (column row : ℕ) (x y : ℤ) (i j : ℕ) → Stands p l b column row → IsFaceAt b x y i j → i < width b → courant p l (face Y x y) ≡ y_number p l (column + i)
y_courant_here p l b column row x y i j s at h =
    courant_of_column p l (face Y x y) (column + i) refl (omega (arith, ints, at.column, s.x)) (omega (arith, s.columns_fit, h))
