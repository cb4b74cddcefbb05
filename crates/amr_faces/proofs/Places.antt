-- Where a box of a level and the faces of its cells stand.
use Rattle.std.proofs.Common.{◌≡◌, ℕ, ◌<◌, ◌≤◌, true, false, ℤ, pos, ◌+ℤ◌, ◌-ℤ◌, ◌≤ℤ◌, ◌<ℤ◌, refl, arith}
use Rattle.std.proofs.lemmas.Bool.{false_from_ne_true}
use Rattle.std.proofs.lemmas.Int.{ints}
use Rattle.amr_box.specs.declared.Cell.{Cell}
use Rattle.amr_box.specs.declared.Axis.{Axis}
use Rattle.amr_box.specs.declared.Axis.TheVariants.{X, Y}
use Rattle.amr_box.specs.Cells.{Extent, IsNear, at_least_zero, cell, extent, height, holds, width}
use Rattle.amr_box.proofs.Numbers.{at_least_zero-same}
use Rattle.amr_def.specs.declared.problem.Problem.{Problem}
use Rattle.amr_def.specs.Domain.{columns, rows, domain}
use Rattle.amr_def.proofs.Nesting.{in_domain-inside}
use Rattle.amr_patch.specs.Places.{on_box}
use Rattle.amr_patch.proofs.Rows.{IsIn, inside, is_inside, sides}
use Rattle.amr_faces.specs.Faces.{IsInDomain}

-- ---- where a box of a level stands

-- a box in the domain has its low corner there
pub record HasCorner (p : Problem) (l : ℕ) (b : Extent) : Type 0 where
  pub west : pos 0 ≤ℤ b.lo.x
  pub south : pos 0 ≤ℤ b.lo.y
  pub east : b.hi.x <ℤ pos (columns p l)
  pub north : b.hi.y <ℤ pos (rows p l)

low_in : (b : Extent) → IsNear b → IsIn b b.lo
low_in b near = record { west = omega (arith, ints); east = near.wide; south = omega (arith, ints); north = near.high }

high_in : (b : Extent) → IsNear b → IsIn b b.hi
high_in b near = record { west = near.wide; east = omega (arith, ints); south = near.high; north = omega (arith, ints) }

pub corner : (p : Problem) (l : ℕ) (b : Extent) → IsNear b → IsInDomain (domain p l) b → HasCorner p l b
corner p l b near lies =
    let low = in_domain-inside p l b.lo (lies.at b.lo (is_inside b b.lo (low_in b near))) in
    let high = in_domain-inside p l b.hi (lies.at b.hi (is_inside b b.hi (high_in b near))) in
    record { west = low.west; south = low.south; east = high.east; north = high.north }

-- ---- a face by its column and row

pub record IsFaceAt (b : Extent) (x y : ℤ) (i j : ℕ) : Type 0 where
  pub column : pos i ≡ x -ℤ b.lo.x
  pub row : pos j ≡ y -ℤ b.lo.y

-- ---- the faces of a box

-- the cells at whose low side along an axis a face of the box lies
abbrev pub face_cells : Axis → Extent → Extent
face_cells X b = extent b.lo (cell (b.hi.x +ℤ pos 1) b.hi.y)
face_cells Y b = extent b.lo (cell b.hi.x (b.hi.y +ℤ pos 1))

pub around : (axis : Axis) (b : Extent) (c : Cell) → on_box axis b c ≡ true → IsIn (face_cells axis b) c
around X b c e = inside (extent b.lo (cell (b.hi.x +ℤ pos 1) b.hi.y)) c e
around Y b c e = inside (extent b.lo (cell b.hi.x (b.hi.y +ℤ pos 1))) c e

-- where a face of a box stands
pub record IsXFace (b : Extent) (x y : ℤ) (i j : ℕ) : Type 0 where
  pub at : IsFaceAt b x y i j
  pub column : i ≤ width b
  pub row : j < height b

pub record IsYFace (b : Extent) (x y : ℤ) (i j : ℕ) : Type 0 where
  pub at : IsFaceAt b x y i j
  pub column : i < width b
  pub row : j ≤ height b

-- how far a coordinate lies above the low corner
unfoldable pub offset : ℤ → ℤ → ℕ
offset low z = at_least_zero (z -ℤ low)

pub x_face_at : (b : Extent) (x y : ℤ) → IsNear b → on_box X b (cell x y) ≡ true → IsXFace b x y (offset b.lo.x x) (offset b.lo.y y)
unfolding offset
x_face_at b x y near e =
    let k = around X b (cell x y) e in
    let s = sides b near in
    let ex : pos (at_least_zero (x -ℤ b.lo.x)) ≡ x -ℤ b.lo.x = at_least_zero-same (x -ℤ b.lo.x) (omega (arith, ints, k.west)) in
    let ey : pos (at_least_zero (y -ℤ b.lo.y)) ≡ y -ℤ b.lo.y = at_least_zero-same (y -ℤ b.lo.y) (omega (arith, ints, k.south)) in
    record { at = record { column = ex; row = ey }; column = omega (arith, ints, ex, k.east, s.wide); row = omega (arith, ints, ey, k.north, s.high) }

pub y_face_at : (b : Extent) (x y : ℤ) → IsNear b → on_box Y b (cell x y) ≡ true → IsYFace b x y (offset b.lo.x x) (offset b.lo.y y)
unfolding offset
y_face_at b x y near e =
    let k = around Y b (cell x y) e in
    let s = sides b near in
    let ex : pos (at_least_zero (x -ℤ b.lo.x)) ≡ x -ℤ b.lo.x = at_least_zero-same (x -ℤ b.lo.x) (omega (arith, ints, k.west)) in
    let ey : pos (at_least_zero (y -ℤ b.lo.y)) ≡ y -ℤ b.lo.y = at_least_zero-same (y -ℤ b.lo.y) (omega (arith, ints, k.south)) in
    record { at = record { column = ex; row = ey }; column = omega (arith, ints, ex, k.east, s.wide); row = omega (arith, ints, ey, k.north, s.high) }

-- the cell on the high side of a face at the end of a row or a column is beyond the box
pub x_beyond : (b : Extent) (x y : ℤ) (i j : ℕ) → IsNear b → IsXFace b x y i j → i ≡ width b → holds b (cell x y) ≡ false
x_beyond b x y i j near f last =
    let s = sides b near in
    false_from_ne_true (holds b (cell x y)) (λ e. let k = inside b (cell x y) e in let east : x ≤ℤ b.hi.x = k.east in omega (arith, ints, east, f.at.column, s.wide))

pub y_beyond : (b : Extent) (x y : ℤ) (i j : ℕ) → IsNear b → IsYFace b x y i j → j ≡ height b → holds b (cell x y) ≡ false
y_beyond b x y i j near f last =
    let s = sides b near in
    false_from_ne_true (holds b (cell x y)) (λ e. let k = inside b (cell x y) e in let north : y ≤ℤ b.hi.y = k.north in omega (arith, ints, north, f.at.row, s.high))
