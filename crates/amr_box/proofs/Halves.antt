-- The parents and the children of a box's cells, and the cells near it.
use Rattle.std.proofs.Common.{◌≡◌, ℕ, Bool, true, false, ◌&&◌, ◌||◌, ◌⊎◌, ℤ, pos, negsuc, ◌+ℤ◌, ◌-ℤ◌, ◌≤ℤ◌, refl, sym, ap, ◌∙◌, arith}
use Rattle.std.proofs.lemmas.Bool.{and_from, and_parts}
use Rattle.std.specs.Prelude.{IsTrue, ◌↔◌}
use Rattle.std.specs.Int.{int_max, int_min}
use Rattle.std.proofs.lemmas.Int.{ints, clamps}
use Rattle.amr_box.specs.declared.Cell.{Cell}
use Rattle.amr_box.specs.Cells.{Extent, HasCorners, HoldsNear, IsBoxOf, IsProper, cell, half, has_child_where, holds, parent, within}

-- a number is twice its half, or one more
pub half_is : (z : ℤ) → (z ≡ half z +ℤ half z) ⊎ (z ≡ half z +ℤ half z +ℤ pos 1)
half_is (pos n) = grind (arith, ints)
half_is (negsuc n) = grind (arith, ints)

within_halves : (lo hi h k z : ℤ) → lo ≤ℤ hi → (lo ≡ h +ℤ h) ⊎ (lo ≡ h +ℤ h +ℤ pos 1) → (hi ≡ k +ℤ k) ⊎ (hi ≡ k +ℤ k +ℤ pos 1) → within h k z ≡ (within lo hi (z +ℤ z +ℤ pos 0) || within lo hi (z +ℤ z +ℤ pos 1))
within_halves lo hi h k z order e f = grind (arith, ints)

within_doubled : (lo hi z h : ℤ) → (z ≡ h +ℤ h) ⊎ (z ≡ h +ℤ h +ℤ pos 1) → within (lo +ℤ lo) (hi +ℤ hi +ℤ pos 1) z ≡ within lo hi h
within_doubled lo hi z h e = grind (arith, ints)

four_ways : (a b c d : Bool) → ((a || b) && (c || d)) ≡ ((a && c) || (b && c) || (a && d) || (b && d))
four_ways true true true true = refl
four_ways true true true false = refl
four_ways true true false true = refl
four_ways true true false false = refl
four_ways true false true true = refl
four_ways true false true false = refl
four_ways true false false true = refl
four_ways true false false false = refl
four_ways false true true true = refl
four_ways false true true false = refl
four_ways false true false true = refl
four_ways false true false false = refl
four_ways false false true true = refl
four_ways false false true false = refl
four_ways false false false true = refl
four_ways false false false false = refl

both : (a b c d : Bool) → a ≡ b → c ≡ d → (a && c) ≡ (b && d)
both a b c d e f = rw (e, f)

pub coarsened : (a b : Extent) → IsProper a → HasCorners b (half a.lo.x) (half a.lo.y) (half a.hi.x) (half a.hi.y) → IsBoxOf b (has_child_where (holds a))
coarsened a b p k = record {
  at = λ c.
      both _ _ _ _
      (ap (λ t. within t b.hi.x c.x) k.west_is ∙ ap (λ t. within (half a.lo.x) t c.x) k.east_is ∙ within_halves a.lo.x a.hi.x (half a.lo.x) (half a.hi.x) c.x p.wide (half_is a.lo.x) (half_is a.hi.x))
      (ap (λ t. within t b.hi.y c.y) k.south_is ∙ ap (λ t. within (half a.lo.y) t c.y) k.north_is ∙ within_halves a.lo.y a.hi.y (half a.lo.y) (half a.hi.y) c.y p.high (half_is a.lo.y) (half_is a.hi.y))
      ∙ four_ways (within a.lo.x a.hi.x (c.x +ℤ c.x +ℤ pos 0)) (within a.lo.x a.hi.x (c.x +ℤ c.x +ℤ pos 1)) (within a.lo.y a.hi.y (c.y +ℤ c.y +ℤ pos 0)) (within a.lo.y a.hi.y (c.y +ℤ c.y +ℤ pos 1));
}

pub refined : (a b : Extent) → HasCorners b (a.lo.x +ℤ a.lo.x) (a.lo.y +ℤ a.lo.y) (a.hi.x +ℤ a.hi.x +ℤ pos 1) (a.hi.y +ℤ a.hi.y +ℤ pos 1) → IsBoxOf b (λ c. holds a (parent c))
refined a b k = record {
  at = λ c.
      both _ _ _ _
      (ap (λ t. within t b.hi.x c.x) k.west_is ∙ ap (λ t. within (a.lo.x +ℤ a.lo.x) t c.x) k.east_is ∙ within_doubled a.lo.x a.hi.x c.x (half c.x) (half_is c.x))
      (ap (λ t. within t b.hi.y c.y) k.south_is ∙ ap (λ t. within (a.lo.y +ℤ a.lo.y) t c.y) k.north_is ∙ within_doubled a.lo.y a.hi.y c.y (half c.y) (half_is c.y));
}

-- ---- the cells near a box

-- the number of a range that is nearest to one
nearest : ℤ → ℤ → ℤ → ℤ
nearest lo hi z = int_max lo (int_min z hi)

nearest-within : (lo hi z : ℤ) → lo ≤ℤ hi → within lo hi (nearest lo hi z) ≡ true
unfolding nearest
nearest-within lo hi z order = grind (arith, ints, clamps)

nearest-near : (lo hi z n : ℤ) → lo ≤ℤ hi → pos 0 ≤ℤ n → within (lo -ℤ n) (hi +ℤ n) z ≡ true → within (nearest lo hi z -ℤ n) (nearest lo hi z +ℤ n) z ≡ true
unfolding nearest
nearest-near lo hi z n order s h = grind (arith, ints, clamps)

from_near : (lo hi d z n : ℤ) → within lo hi d ≡ true → within (d -ℤ n) (d +ℤ n) z ≡ true → within (lo -ℤ n) (hi +ℤ n) z ≡ true
from_near lo hi d z n h k = grind (arith, ints)

pub grown_cells : (n : ℕ) (a b : Extent) → IsProper a → HasCorners b (a.lo.x -ℤ pos n) (a.lo.y -ℤ pos n) (a.hi.x +ℤ pos n) (a.hi.y +ℤ pos n) → (c : Cell) → IsTrue (holds b c) ↔ HoldsNear n a c
grown_cells n a b p k c = (to, from)
  where
    corners : holds b c ≡ (within (a.lo.x -ℤ pos n) (a.hi.x +ℤ pos n) c.x && within (a.lo.y -ℤ pos n) (a.hi.y +ℤ pos n) c.y)
    corners = rw (k.west_is, k.east_is, k.south_is, k.north_is)

    to : IsTrue (holds b c) → HoldsNear n a c
    to h =
        let s : pos 0 ≤ℤ pos n = omega (arith, ints) in
        let t = and_parts _ _ (sym corners ∙ h) in (
          cell (nearest a.lo.x a.hi.x c.x) (nearest a.lo.y a.hi.y c.y),
          and_from _ _ (nearest-within a.lo.x a.hi.x c.x p.wide) (nearest-within a.lo.y a.hi.y c.y p.high),
          and_from _ _ (nearest-near a.lo.x a.hi.x c.x (pos n) p.wide s t.0) (nearest-near a.lo.y a.hi.y c.y (pos n) p.high s t.1),
        )

    from : HoldsNear n a c → IsTrue (holds b c)
    from h =
        let t = and_parts _ _ h.1 in
        let u = and_parts _ _ h.2 in
        corners ∙ and_from _ _ (from_near a.lo.x a.hi.x h.0.x c.x (pos n) t.0 u.0) (from_near a.lo.y a.hi.y h.0.y c.y (pos n) t.1 u.1)
