-- The two parts of a box that is cut, and how many cells a box has.
use Rattle.std.proofs.Common.{◌≡◌, ℕ, zero, suc, ◌+◌, ◌*◌, Bool, true, false, ◌&&◌, ℤ, pos, ◌+ℤ◌, ◌-ℤ◌, ◌≤ℤ◌, ◌<ℤ◌, refl, ap, ◌∙◌, arith, map, length, length-append, sym}
use Rattle.std.specs.Prelude.{int_le, int_lt}
use Rattle.std.specs.List.{range_with_len, flat_map}
use Rattle.std.proofs.lemmas.Int.{ints}
use Rattle.std.proofs.lemmas.List.Concat.{flat_map-cons}
use Rattle.std.proofs.lemmas.List.FromFn.{length-map-range_with_len}
use Rattle.std.proofs.Math.Bool.{and_assoc}
use Rattle.amr_box.specs.declared.Cell.{Cell}
use Rattle.amr_box.specs.declared.Axis.{Axis}
use Rattle.amr_box.specs.declared.Axis.TheVariants.{X, Y}
use Rattle.amr_box.specs.Cells.{Extent, HasCorners, IsBoxOf, along, below_cut, cell, cells_of, from_cut, height, holds, width, within}

within_below : (lo hi i z : ℤ) → i ≤ℤ hi → within lo (i -ℤ pos 1) z ≡ (within lo hi z && int_lt z i)
within_below lo hi i z h = grind (arith, ints)

within_from : (lo hi i z : ℤ) → lo <ℤ i → within i hi z ≡ (within lo hi z && int_le i z)
within_from lo hi i z h = grind (arith, ints)

and-last : (a b c : Bool) → ((a && c) && b) ≡ ((a && b) && c)
and-last true true true = refl
and-last true true false = refl
and-last true false true = refl
and-last true false false = refl
and-last false b c = refl

pub below_cells : (axis : Axis) (i : ℤ) (b : Extent) → i ≤ℤ along axis b.hi → IsBoxOf (below_cut axis i b) (λ c. holds b c && int_lt (along axis c) i)
below_cells X i b h = record {
  at = λ c. ap (λ t. t && within b.lo.y b.hi.y c.y) (within_below b.lo.x b.hi.x i c.x h) ∙ and-last (within b.lo.x b.hi.x c.x) (within b.lo.y b.hi.y c.y) (int_lt c.x i);
}
below_cells Y i b h = record {
  at = λ c. ap (λ t. within b.lo.x b.hi.x c.x && t) (within_below b.lo.y b.hi.y i c.y h) ∙ sym (and_assoc (within b.lo.x b.hi.x c.x) (within b.lo.y b.hi.y c.y) (int_lt c.y i));
}

pub from_cells : (axis : Axis) (i : ℤ) (b : Extent) → along axis b.lo <ℤ i → IsBoxOf (from_cut axis i b) (λ c. holds b c && int_le i (along axis c))
from_cells X i b h = record {
  at = λ c. ap (λ t. t && within b.lo.y b.hi.y c.y) (within_from b.lo.x b.hi.x i c.x h) ∙ and-last (within b.lo.x b.hi.x c.x) (within b.lo.y b.hi.y c.y) (int_le i c.x);
}
from_cells Y i b h = record {
  at = λ c. ap (λ t. within b.lo.x b.hi.x c.x && t) (within_from b.lo.y b.hi.y i c.y h) ∙ sym (and_assoc (within b.lo.x b.hi.x c.x) (within b.lo.y b.hi.y c.y) (int_le i c.y));
}

-- ---- the same, for a box that is given by its corners

same_corners : (b e : Extent) → HasCorners b e.lo.x e.lo.y e.hi.x e.hi.y → b ≡ e
same_corners b e k = λ i. record { lo = record { x = k.west_is i; y = k.south_is i }; hi = record { x = k.east_is i; y = k.north_is i } }

pub below_x : (axis : Axis) (i : ℤ) (a b : Extent) → axis ≡ X → i ≤ℤ along axis a.hi → HasCorners b a.lo.x a.lo.y (i -ℤ pos 1) a.hi.y → IsBoxOf b (λ c. holds a c && int_lt (along axis c) i)
below_x X i a b e h k = record { at = λ c. ap (λ t. holds t c) (same_corners b (below_cut X i a) k) ∙ (below_cells X i a h).at c }
below_x Y i a b e h k = absurd (cc)

pub below_y : (axis : Axis) (i : ℤ) (a b : Extent) → axis ≡ Y → i ≤ℤ along axis a.hi → HasCorners b a.lo.x a.lo.y a.hi.x (i -ℤ pos 1) → IsBoxOf b (λ c. holds a c && int_lt (along axis c) i)
below_y X i a b e h k = absurd (cc)
below_y Y i a b e h k = record { at = λ c. ap (λ t. holds t c) (same_corners b (below_cut Y i a) k) ∙ (below_cells Y i a h).at c }

pub from_x : (axis : Axis) (i : ℤ) (a b : Extent) → axis ≡ X → along axis a.lo <ℤ i → HasCorners b i a.lo.y a.hi.x a.hi.y → IsBoxOf b (λ c. holds a c && int_le i (along axis c))
from_x X i a b e h k = record { at = λ c. ap (λ t. holds t c) (same_corners b (from_cut X i a) k) ∙ (from_cells X i a h).at c }
from_x Y i a b e h k = absurd (cc)

pub from_y : (axis : Axis) (i : ℤ) (a b : Extent) → axis ≡ Y → along axis a.lo <ℤ i → HasCorners b a.lo.x i a.hi.x a.hi.y → IsBoxOf b (λ c. holds a c && int_le i (along axis c))
from_y X i a b e h k = absurd (cc)
from_y Y i a b e h k = record { at = λ c. ap (λ t. holds t c) (same_corners b (from_cut Y i a) k) ∙ (from_cells Y i a h).at c }

-- ---- the number of cells

rows_length : (f : ℕ → ℕ → Cell) (w a n : ℕ) → length (flat_map (λ j. map (f j) (range_with_len 0 w)) (range_with_len a n)) ≡ w * n
rows_length f w a zero = omega arith
rows_length f w a (suc n) =
    rw flat_map-cons
    (length-append (map (f a) (range_with_len 0 w)) (flat_map (λ j. map (f j) (range_with_len 0 w)) (range_with_len (a + 1) n))
    ∙ omega (arith, length-map-range_with_len (f a) 0 w, rows_length f w (a + 1) n))

pub length-cells_of : (b : Extent) → length (cells_of b) ≡ width b * height b
length-cells_of b = rows_length (λ j i. cell (b.lo.x +ℤ pos i) (b.lo.y +ℤ pos j)) (width b) 0 (height b)
