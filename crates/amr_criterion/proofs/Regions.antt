-- Regions of cells: joined, and with the cells after them.
use Rattle.std.proofs.Common.{◌≡◌, ℕ, ◌+◌, ◌<◌, ◌≤◌, Bool, true, false, ◌&&◌, ◌||◌, ℤ, pos, negsuc, ◌+ℤ◌, ◌-ℤ◌, ◌≤ℤ◌, ◌<ℤ◌, refl, ap, ◌∙◌, arith}
use Rattle.std.specs.Prelude.{unsigned_abs}
use Rattle.std.proofs.lemmas.Int.{ints}
use Rattle.std.proofs.lemmas.Bool.{and_parts}
use Rattle.std.proofs.Math.Bool.{and-false, and-or_distrib_right, and-or_distrib_left}
use Rattle.amr_box.specs.declared.Cell.{Cell}
use Rattle.amr_box.specs.declared.Axis.{Axis}
use Rattle.amr_box.specs.declared.Axis.TheVariants.{X, Y}
use Rattle.amr_box.specs.Cells.{Extent, cell, extent, holds, within}
use Rattle.amr_box.proofs.CellEquality.{same_cells}
use Rattle.amr_box.proofs.Numbers.{none_within}
use Rattle.amr_criterion.specs.Pairs.{after, ahead, before, region, with_after}

-- numbers up to one more
pub one_more : (low high z : ℤ) → low ≤ℤ high → within low (high +ℤ pos 1) z ≡ (within low high z || within low high (z -ℤ pos 1))
one_more low high z h = grind (arith, ints)

-- numbers in two parts
pub two_parts : (low z : ℤ) (m n t : ℕ) → t ≡ m + n → within low (low +ℤ pos t -ℤ pos 1) z ≡ (within low (low +ℤ pos m -ℤ pos 1) z || within (low +ℤ pos m) (low +ℤ pos m +ℤ pos n -ℤ pos 1) z)
two_parts low z m n t e = grind (arith, ints)

-- a row of cells, in two parts
pub row_parts : (from : Cell) (m n t : ℕ) (c : Cell) → t ≡ m + n → holds (region from t 1) c ≡ (holds (region from m 1) c || holds (region (ahead from m) n 1) c)
row_parts from m n t c e =
    let y = within from.y (from.y +ℤ pos 1 -ℤ pos 1) c.y in
    ap (λ (b : Bool). b && y) (two_parts from.x c.x m n t e) ∙ and-or_distrib_right (within from.x (from.x +ℤ pos m -ℤ pos 1) c.x) (within (from.x +ℤ pos m) (from.x +ℤ pos m +ℤ pos n -ℤ pos 1) c.x) y

-- rows of cells, and one row more
pub rows_parts : (from : Cell) (n m k t : ℕ) (c : Cell) → t ≡ m + k → holds (region from n t) c ≡ (holds (region from n m) c || holds (region (cell from.x (from.y +ℤ pos m)) n k) c)
rows_parts from n m k t c e =
    let x = within from.x (from.x +ℤ pos n -ℤ pos 1) c.x in
    ap (λ (b : Bool). x && b) (two_parts from.y c.y m k t e) ∙ and-or_distrib_left x (within from.y (from.y +ℤ pos m -ℤ pos 1) c.y) (within (from.y +ℤ pos m) (from.y +ℤ pos m +ℤ pos k -ℤ pos 1) c.y)

pub no_rows : (from : Cell) (n : ℕ) (c : Cell) → holds (region from n 0) c ≡ false
no_rows from n c = ap (λ (b : Bool). within from.x (from.x +ℤ pos n -ℤ pos 1) c.x && b) (none_within from.y c.y) ∙ and-false (within from.x (from.x +ℤ pos n -ℤ pos 1) c.x)

-- the cells of a region and those after them
pub cells_after : (axis : Axis) (b : Extent) (c : Cell) → b.lo.x ≤ℤ b.hi.x → b.lo.y ≤ℤ b.hi.y → holds (with_after axis b) c ≡ (holds b c || holds b (before axis c))
cells_after X b c wide high =
    let y = within b.lo.y b.hi.y c.y in
    ap (λ (t : Bool). t && y) (one_more b.lo.x b.hi.x c.x wide) ∙ and-or_distrib_right (within b.lo.x b.hi.x c.x) (within b.lo.x b.hi.x (c.x -ℤ pos 1)) y
cells_after Y b c wide high =
    let x = within b.lo.x b.hi.x c.x in
    ap (λ (t : Bool). x && t) (one_more b.lo.y b.hi.y c.y high) ∙ and-or_distrib_left x (within b.lo.y b.hi.y c.y) (within b.lo.y b.hi.y (c.y -ℤ pos 1))

-- a cell of a row stands so far on
pub record IsAhead (from : Cell) (a n : ℕ) (c : Cell) : Type 0 where
  pub k : ℕ
  pub from_a : a ≤ k
  pub to_n : k < a + n
  pub is : c ≡ ahead from k

column_of : (low z : ℤ) (a n : ℕ) → within (low +ℤ pos a) (low +ℤ pos a +ℤ pos n -ℤ pos 1) z ≡ true → (z ≡ low +ℤ pos (unsigned_abs (z -ℤ low))) × (a ≤ unsigned_abs (z -ℤ low)) × (unsigned_abs (z -ℤ low) < a + n)
column_of low z a n h = by_size (z -ℤ low) refl (low_part h) (high_part h)
  where
    low_part : within (low +ℤ pos a) (low +ℤ pos a +ℤ pos n -ℤ pos 1) z ≡ true → (low +ℤ pos a) ≤ℤ z
    low_part h = grind (arith, ints)

    high_part : within (low +ℤ pos a) (low +ℤ pos a +ℤ pos n -ℤ pos 1) z ≡ true → z <ℤ (low +ℤ pos a +ℤ pos n)
    high_part h = grind (arith, ints)

    by_size : (d : ℤ) → z -ℤ low ≡ d → (low +ℤ pos a) ≤ℤ z → z <ℤ (low +ℤ pos a +ℤ pos n) → (z ≡ low +ℤ pos (unsigned_abs d)) × (a ≤ unsigned_abs d) × (unsigned_abs d < a + n)
    by_size (pos k) e l h = (omega (arith, ints), omega (arith, ints), omega (arith, ints))
    by_size (negsuc k) e l h = absurd (omega (arith, ints))

one_row : (low z : ℤ) → within low (low +ℤ pos 1 -ℤ pos 1) z ≡ true → z ≡ low
one_row low z h = grind (arith, ints)

pub ahead_of : (from : Cell) (a n : ℕ) (c : Cell) → holds (region (ahead from a) n 1) c ≡ true → IsAhead from a n c
ahead_of from a n c h =
    let both = and_parts (within (from.x +ℤ pos a) (from.x +ℤ pos a +ℤ pos n -ℤ pos 1) c.x) (within from.y (from.y +ℤ pos 1 -ℤ pos 1) c.y) h in
    let column = column_of from.x c.x a n both.0 in
    let row = one_row from.y c.y both.1 in
    record { k = unsigned_abs (c.x -ℤ from.x); from_a = column.1; to_n = column.2; is = λ i. cell (column.0 i) (row i) }

-- ---- the box of a span of pairs

pub not_before : (axis : Axis) (last high : Cell) → high ≡ after axis last → (last.x ≤ℤ high.x) × (last.y ≤ℤ high.y)
not_before X last high e =
    let x : high.x ≡ last.x +ℤ pos 1 = ap (λ (c : Cell). c.x) e in
    let y : high.y ≡ last.y = ap (λ (c : Cell). c.y) e in
    (omega (arith, ints, x), omega (arith, ints, y))
not_before Y last high e =
    let x : high.x ≡ last.x = ap (λ (c : Cell). c.x) e in
    let y : high.y ≡ last.y +ℤ pos 1 = ap (λ (c : Cell). c.y) e in
    (omega (arith, ints, x), omega (arith, ints, y))

pub box_after : (axis : Axis) (b r : Extent) (last high : Cell) → high ≡ after axis last → b.lo.x ≡ r.lo.x → b.lo.y ≡ r.lo.y → b.hi.x ≡ high.x → b.hi.y ≡ high.y → last.x ≡ r.hi.x → last.y ≡ r.hi.y → (c : Cell) → holds b c ≡ holds (with_after axis r) c
box_after axis b r last high e west south east north x y c =
    let top : b.hi ≡ after axis r.hi = same_cells b.hi high east north ∙ e ∙ ap (after axis) (same_cells last r.hi x y) in
    λ i. holds (extent (same_cells b.lo r.lo west south i) (top i)) c

-- the cell after one that stands so far on stands as far on from the one after
pub after_ahead : (axis : Axis) (c : Cell) (k : ℕ) → ahead (after axis c) k ≡ after axis (ahead c k)
after_ahead X c k = λ i. cell (swap c.x k i) c.y
  where
    swap : (z : ℤ) (k : ℕ) → z +ℤ pos 1 +ℤ pos k ≡ z +ℤ pos k +ℤ pos 1
    swap z k = omega (arith, ints)
after_ahead Y c k = refl
