-- Spans of a row, and rows of a box, one after the other.
use Rattle.std.proofs.Common.{◌≡◌, ◌∙◌, ℕ, ◌+◌, ◌<◌, Bool, true, false, ◌&&◌, ◌||◌, ℤ, pos, ◌+ℤ◌, ◌-ℤ◌, ◌≤ℤ◌, sym, ap, arith}
use Rattle.std.proofs.Math.Bool.{and-or_distrib_right}
use Rattle.std.proofs.lemmas.Int.{ints}
use Rattle.std.proofs.lemmas.Bool.{false_from_ne_true}
use Rattle.amr_box.specs.declared.Cell.{Cell}
use Rattle.amr_box.specs.Cells.{Extent, at_least_zero, cell, holds, within}
use Rattle.amr_box.proofs.CellEquality.{same_cells}
use Rattle.amr_box.proofs.Tests.{and_shared}
use Rattle.amr_box.proofs.Numbers.{at_least_zero-same}
use Rattle.amr_patch.proofs.Rows.{inside, is_inside}
use Rattle.amr_transfer.specs.Given.{rows_to, span}

-- ---- spans

pub span_none : (c d : Cell) → holds (span c 0) d ≡ false
span_none c d = false_from_ne_true (holds (span c 0) d) (λ h. let i = inside (span c 0) d h in omega (arith, ints, i.west, i.east))

within_more : (a m n x : ℤ) → pos 0 ≤ℤ m → pos 0 ≤ℤ n → within a (a +ℤ (m +ℤ n) -ℤ pos 1) x ≡ (within a (a +ℤ m -ℤ pos 1) x || within (a +ℤ m) (a +ℤ m +ℤ n -ℤ pos 1) x)
within_more a m n x h k = grind (arith, ints)

pub span_more : (c e d : Cell) (m n : ℕ) → e ≡ cell (c.x +ℤ pos m) c.y → holds (span c (m + n)) d ≡ (holds (span c m) d || holds (span e n) d)
span_more c e d m n is =
    let more = within_more c.x (pos m) (pos n) d.x (omega (arith, ints)) (omega (arith, ints)) in
    ap (λ (t : Bool). t && within c.y c.y d.y) more
    ∙ and-or_distrib_right (within c.x (c.x +ℤ pos m -ℤ pos 1) d.x) (within (c.x +ℤ pos m) (c.x +ℤ pos m +ℤ pos n -ℤ pos 1) d.x) (within c.y c.y d.y)
    ∙ ap (λ (k : Cell). holds (span c m) d || holds (span k n) d) (sym is)

-- the cell of a span at its place
pub record IsAt (c : Cell) (n : ℕ) (d : Cell) : Type 0 where
  pub place : ℕ
  pub below : place < n
  pub is : d ≡ cell (c.x +ℤ pos place) c.y

pub in_span : (c : Cell) (n : ℕ) (d : Cell) → holds (span c n) d ≡ true → IsAt c n d
in_span c n d h =
    let i = inside (span c n) d h in
    let e : pos (at_least_zero (d.x -ℤ c.x)) ≡ d.x -ℤ c.x = at_least_zero-same (d.x -ℤ c.x) (omega (arith, ints, i.west)) in
    record {
      place = at_least_zero (d.x -ℤ c.x);
      below = omega (arith, ints, i.east, e);
      is = same_cells d (cell (c.x +ℤ pos (at_least_zero (d.x -ℤ c.x))) c.y) (omega (arith, ints, e)) (omega (arith, ints, i.south, i.north));
    }

pub off_span : (c : Cell) (n k : ℕ) (d : Cell) → holds (span c n) d ≡ false → k < n → d ≡ cell (c.x +ℤ pos k) c.y → ⊥
off_span c n k d off lt is =
    let on : holds (span c n) d ≡ true = is_inside (span c n) d (record { west = omega (arith, ints, x); east = omega (arith, ints, x); south = omega (arith, ints, y); north = omega (arith, ints, y) }) in
    clash (sym on ∙ off)
  where
    x : d.x ≡ c.x +ℤ pos k
    x = ap (λ (e : Cell). e.x) is

    y : d.y ≡ c.y
    y = ap (λ (e : Cell). e.y) is

    clash : true ≡ false → ⊥
    clash e = cc

-- a span lies in a box that has its first cell and reaches as far
pub span_inside : (b : Extent) (c : Cell) (n : ℕ) (d : Cell) → holds b c ≡ true → (c.x +ℤ pos n) ≤ℤ (b.hi.x +ℤ pos 1) → holds (span c n) d ≡ true → holds b d ≡ true
span_inside b c n d h room on =
    let i = inside b c h in
    let j = inside (span c n) d on in
    is_inside b d (record { west = omega (arith, ints, i.west, j.west); east = omega (arith, ints, j.east, room); south = omega (arith, ints, i.south, j.south, j.north); north = omega (arith, ints, i.north, j.south, j.north) })

-- ---- rows of a box

pub rows_none : (b : Extent) (d : Cell) → holds (rows_to b 0) d ≡ false
rows_none b d = false_from_ne_true (holds (rows_to b 0) d) (λ h. let i = inside (rows_to b 0) d h in omega (arith, ints, i.south, i.north))

pub rows_more : (b : Extent) (k w : ℕ) (e d : Cell) → e ≡ cell b.lo.x (b.lo.y +ℤ pos k) → pos w ≡ b.hi.x +ℤ pos 1 -ℤ b.lo.x → holds (rows_to b (k + 1)) d ≡ (holds (rows_to b k) d || holds (span e w) d)
rows_more b k w e d is wide =
    let more = within_more b.lo.y (pos k) (pos 1) d.y (omega (arith, ints)) (omega (arith, ints)) in
    let east : b.hi.x ≡ b.lo.x +ℤ pos w -ℤ pos 1 = omega (arith, ints, wide) in
    let top : b.lo.y +ℤ pos k +ℤ pos 1 -ℤ pos 1 ≡ b.lo.y +ℤ pos k = omega (arith, ints) in
    ap (λ (t : Bool). within b.lo.x b.hi.x d.x && t) more
    ∙ sym (and_shared (within b.lo.x b.hi.x d.x) (within b.lo.y (b.lo.y +ℤ pos k -ℤ pos 1) d.y) (within (b.lo.y +ℤ pos k) (b.lo.y +ℤ pos k +ℤ pos 1 -ℤ pos 1) d.y))
    ∙ ap (λ (z : ℤ). holds (rows_to b k) d || within b.lo.x b.hi.x d.x && within (b.lo.y +ℤ pos k) z d.y) top
    ∙ ap (λ (z : ℤ). holds (rows_to b k) d || within b.lo.x z d.x && within (b.lo.y +ℤ pos k) (b.lo.y +ℤ pos k) d.y) east
    ∙ ap (λ (c : Cell). holds (rows_to b k) d || holds (span c w) d) (sym is)

pub rows_all : (b : Extent) (h : ℕ) (d : Cell) → pos h ≡ b.hi.y +ℤ pos 1 -ℤ b.lo.y → holds b d ≡ holds (rows_to b h) d
rows_all b h d high =
    let top : b.hi.y ≡ b.lo.y +ℤ pos h -ℤ pos 1 = omega (arith, ints, high) in
    ap (λ (z : ℤ). within b.lo.x b.hi.x d.x && within b.lo.y z d.y) top
