-- Where a cell stands among the cells of a box, in rows.
use Rattle.std.proofs.Common.{◌≡◌, ℕ, ◌+◌, ◌*◌, ◌<◌, ◌≤◌, true, ℤ, pos, ◌+ℤ◌, ◌-ℤ◌, ◌≤ℤ◌, refl, arith}
use Rattle.std.specs.Prelude.{int_le}
use Rattle.std.proofs.lemmas.Int.{ints}
use Rattle.std.proofs.lemmas.Bool.{and_parts, and_from}
use Rattle.std.proofs.lemmas.Nat.{rows}
use Rattle.std.proofs.Math.Nat.{mul-le-mul_right}
use Rattle.amr_box.specs.declared.Cell.{Cell}
use Rattle.amr_box.specs.Cells.{Extent, IsNear, at_least_zero, height, holds, width, within}
use Rattle.amr_box.proofs.Numbers.{at_least_zero-same, is_between, le_from as is_le}
use Rattle.amr_patch.specs.Places.{place}

-- ---- tests as facts

pub record IsBetween (low high z : ℤ) : Type 0 where
  pub from : low ≤ℤ z
  pub to : z ≤ℤ high

pub between : (low high z : ℤ) → within low high z ≡ true → IsBetween low high z
between low high z e =
    let t : (int_le low z ≡ true) × (int_le z high ≡ true) = and_parts (int_le low z) (int_le z high) e in
    record { from = is_le low z t.0; to = is_le z high t.1 }

-- the cell is in the box
pub record IsIn (b : Extent) (c : Cell) : Type 0 where
  pub west : b.lo.x ≤ℤ c.x
  pub east : c.x ≤ℤ b.hi.x
  pub south : b.lo.y ≤ℤ c.y
  pub north : c.y ≤ℤ b.hi.y

pub inside : (b : Extent) (c : Cell) → holds b c ≡ true → IsIn b c
inside b c e =
    let t : (within b.lo.x b.hi.x c.x ≡ true) × (within b.lo.y b.hi.y c.y ≡ true) = and_parts (within b.lo.x b.hi.x c.x) (within b.lo.y b.hi.y c.y) e in
    let x = between b.lo.x b.hi.x c.x t.0 in
    let y = between b.lo.y b.hi.y c.y t.1 in
    record { west = x.from; east = x.to; south = y.from; north = y.to }

pub is_inside : (b : Extent) (c : Cell) → IsIn b c → holds b c ≡ true
is_inside b c h = and_from (within b.lo.x b.hi.x c.x) (within b.lo.y b.hi.y c.y) (is_between b.lo.x b.hi.x c.x h.west h.east) (is_between b.lo.y b.hi.y c.y h.south h.north)

-- ---- places

pub zero-cut : (z : ℤ) (n : ℕ) → pos n ≡ z → at_least_zero z ≡ n
zero-cut z n e = rw (← e) refl

pub place_is : (b : Extent) (c : Cell) (row column w : ℕ) → pos row ≡ c.y -ℤ (b.lo.y -ℤ pos 1) → pos column ≡ c.x -ℤ (b.lo.x -ℤ pos 1) → w ≡ width b → row * (w + 2) + column ≡ place b c
unfolding place
place_is b c row column w r s e =
    let p : at_least_zero (c.y +ℤ pos 1 -ℤ b.lo.y) ≡ row = zero-cut (c.y +ℤ pos 1 -ℤ b.lo.y) row (omega (arith, ints, r)) in
    let q : at_least_zero (c.x +ℤ pos 1 -ℤ b.lo.x) ≡ column = zero-cut (c.x +ℤ pos 1 -ℤ b.lo.x) column (omega (arith, ints, s)) in
    rw (p, q, e) refl

-- the sides of a near box, as whole numbers
pub record HasSides (b : Extent) : Type 0 where
  pub wide : pos (width b) ≡ b.hi.x +ℤ pos 1 -ℤ b.lo.x
  pub high : pos (height b) ≡ b.hi.y +ℤ pos 1 -ℤ b.lo.y
  pub narrow : width b ≤ 33554433
  pub flat : height b ≤ 33554433
  pub some_columns : 0 < width b
  pub some_rows : 0 < height b

pub sides : (b : Extent) → IsNear b → HasSides b
sides b h =
    let w : pos (width b) ≡ b.hi.x +ℤ pos 1 -ℤ b.lo.x = at_least_zero-same (b.hi.x +ℤ pos 1 -ℤ b.lo.x) (omega (arith, ints)) in
    let k : pos (height b) ≡ b.hi.y +ℤ pos 1 -ℤ b.lo.y = at_least_zero-same (b.hi.y +ℤ pos 1 -ℤ b.lo.y) (omega (arith, ints)) in
    record { wide = w; high = k; narrow = omega (arith, ints); flat = omega (arith, ints); some_columns = omega (arith, ints); some_rows = omega (arith, ints) }

-- such a place is one of h rows of w entries
pub place_within : (row column w h : ℕ) → row < h → column < w → row * w + column < h * w
place_within row column w h p q = grind (arith, rows)

pub row_within : (row column n w h : ℕ) → row < h → column + n ≤ w → row * w + column + n ≤ h * w
row_within row column n w h p q =
    let le : row + 1 ≤ h = omega arith in
    omega (arith, q, mul-le-mul_right {m = row + 1} {n = h} w le)
