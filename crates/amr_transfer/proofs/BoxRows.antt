-- The rows of a box, and what two boxes have in common.
use Rattle.std.proofs.Common.{◌≡◌, ◌∙◌, ℕ, ◌<◌, Bool, true, ◌&&◌, pos, ◌+ℤ◌, ◌-ℤ◌, ◌≤ℤ◌, sym, ap, arith}
use Rattle.std.proofs.lemmas.Int.{clamps, ints}
use Rattle.std.proofs.lemmas.Bool.{and_parts}
use Rattle.amr_box.specs.declared.Cell.{Cell}
use Rattle.amr_box.specs.Cells.{Extent, IsBoxOf, IsNear, IsProper, cell, common, holds}
use Rattle.amr_patch.proofs.Rows.{inside, is_inside}

-- the k-th row of a box: its first and its last cell
pub row_first : (b : Extent) (k h : ℕ) (e : Cell) → b.lo.x ≤ℤ b.hi.x → pos h ≡ b.hi.y +ℤ pos 1 -ℤ b.lo.y → k < h → e ≡ cell b.lo.x (b.lo.y +ℤ pos k) → holds b e ≡ true
row_first b k h e wide high lt is =
    ap (holds b) is ∙ is_inside b (cell b.lo.x (b.lo.y +ℤ pos k)) (record { west = omega (arith, ints); east = wide; south = omega (arith, ints); north = omega (arith, ints, high, lt) })

pub row_last : (b : Extent) (k h : ℕ) (e : Cell) → b.lo.x ≤ℤ b.hi.x → pos h ≡ b.hi.y +ℤ pos 1 -ℤ b.lo.y → k < h → e ≡ cell b.lo.x (b.lo.y +ℤ pos k) → holds b (cell b.hi.x e.y) ≡ true
row_last b k h e wide high lt is =
    ap (λ (d : Cell). holds b (cell b.hi.x d.y)) is ∙ is_inside b (cell b.hi.x (b.lo.y +ℤ pos k)) (record { west = wide; east = omega (arith, ints); south = omega (arith, ints); north = omega (arith, ints, high, lt) })

-- a cell further on in a row
pub ahead_held : (b : Extent) (low e : Cell) (k w : ℕ) → holds b low ≡ true → pos w ≡ b.hi.x +ℤ pos 1 -ℤ low.x → k < w → e ≡ cell (low.x +ℤ pos k) low.y → holds b e ≡ true
ahead_held b low e k w h count lt is =
    let i = inside b low h in
    ap (holds b) is ∙ is_inside b (cell (low.x +ℤ pos k) low.y) (record { west = omega (arith, ints, i.west); east = omega (arith, ints, count, lt); south = i.south; north = i.north })

pub near_common : (a b : Extent) → IsNear a → IsProper (common a b) → IsNear (common a b)
near_common a b near proper = record {
  west = omega (arith, ints, clamps, near.west);
  east = omega (arith, ints, clamps, near.east);
  south = omega (arith, ints, clamps, near.south);
  north = omega (arith, ints, clamps, near.north);
  wide = proper.wide;
  high = proper.high;
}

pub in_both : (a b m : Extent) (c : Cell) → IsBoxOf m (λ d. holds a d && holds b d) → holds m c ≡ true → (holds a c ≡ true) × (holds b c ≡ true)
in_both a b m c cells h = and_parts (holds a c) (holds b c) (sym (cells.at c) ∙ h)

-- in a cell of the first box, whether it is in both is whether it is in the second
pub in_second : (a b m : Extent) (c : Cell) → IsBoxOf m (λ d. holds a d && holds b d) → holds a c ≡ true → holds b c ≡ holds m c
in_second a b m c cells h = sym (cells.at c ∙ ap (λ (t : Bool). t && holds b c) h)
