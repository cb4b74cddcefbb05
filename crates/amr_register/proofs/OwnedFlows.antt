-- The faces of a box, and sizes of flows.
use Rattle.std.proofs.Common.{◌≡◌, ◌∙◌, ℕ, ◌+◌, ◌<◌, true, ℤ, pos, negsuc, ◌+ℤ◌, ◌-ℤ◌, ◌<ℤ◌, arith}
use Rattle.std.specs.Prelude.{unsigned_abs}
use Rattle.std.proofs.lemmas.Int.{ints}
use Rattle.std.proofs.lemmas.Bool.{and_from, and_parts}
use Rattle.amr_box.specs.declared.Cell.{Cell}
use Rattle.amr_box.specs.declared.Axis.{Axis}
use Rattle.amr_box.specs.declared.Axis.TheVariants.{X, Y}
use Rattle.amr_box.specs.Cells.{Extent, holds, within}
use Rattle.amr_def.specs.Flux.{face}
use Rattle.amr_register.specs.CoarseFlows.{high_face}
use Rattle.amr_patch.specs.Places.{is_face_of, on_box}

within_more : (low high z : ℤ) → within low high z ≡ true → within low (high +ℤ pos 1) z ≡ true
within_more low high z h = grind (arith, ints)

within_next : (low high z : ℤ) → within low high z ≡ true → within low (high +ℤ pos 1) (z +ℤ pos 1) ≡ true
within_next low high z h = grind (arith, ints)

-- a face at the low side of a cell of a box is one of the box
pub low_face_of_box : (b : Extent) (a : Axis) (c : Cell) → holds b c ≡ true → is_face_of b (face a c.x c.y) ≡ true
low_face_of_box b a c h = by_axis a (and_parts (within b.lo.x b.hi.x c.x) (within b.lo.y b.hi.y c.y) h)
  where
    by_axis : (a : Axis) → (within b.lo.x b.hi.x c.x ≡ true) × (within b.lo.y b.hi.y c.y ≡ true) → on_box a b c ≡ true
    by_axis X t = and_from _ _ (within_more b.lo.x b.hi.x c.x t.0) t.1
    by_axis Y t = and_from _ _ t.0 (within_more b.lo.y b.hi.y c.y t.1)

-- and so is one at the high side
pub high_face_of_box : (b : Extent) (a : Axis) (c : Cell) → holds b c ≡ true → is_face_of b (high_face a c) ≡ true
high_face_of_box b X c h = let t = and_parts (within b.lo.x b.hi.x c.x) (within b.lo.y b.hi.y c.y) h in and_from _ _ (within_next b.lo.x b.hi.x c.x t.0) t.1
high_face_of_box b Y c h = let t = and_parts (within b.lo.x b.hi.x c.x) (within b.lo.y b.hi.y c.y) h in and_from _ _ t.0 (within_next b.lo.y b.hi.y c.y t.1)

-- a number that is kept in 64 bits
pub kept_as : (a r z : ℤ) → a ≡ r → r ≡ z → a ≡ z
kept_as a r z e f = e ∙ f

pub net_of_parts : (r w e s n w' e' s' n' : ℤ) → r ≡ (w -ℤ e) +ℤ (s -ℤ n) → w ≡ w' → e ≡ e' → s ≡ s' → n ≡ n' → r ≡ (w' -ℤ e') +ℤ (s' -ℤ n')
net_of_parts r w e s n w' e' s' n' h a b c d = h ∙ (λ i. (a i -ℤ b i) +ℤ (c i -ℤ d i))

pub above : (z : ℤ) (n : ℕ) → unsigned_abs z < n → negsuc n <ℤ z
above (pos a) n h = omega (arith, ints)
above (negsuc a) n h = omega (arith, ints)

-- as near as may be
pub above_limit : (z : ℤ) (n : ℕ) → unsigned_abs z < n + 1 → negsuc n <ℤ z
above_limit (pos a) n h = omega (arith, ints)
above_limit (negsuc a) n h = omega (arith, ints)

pub below : (z : ℤ) (n : ℕ) → unsigned_abs z < n → z <ℤ pos n
below (pos a) n h = omega (arith, ints)
below (negsuc a) n h = omega (arith, ints)

pub abs_from : (z : ℤ) (n : ℕ) → negsuc n <ℤ z → z <ℤ pos (n + 1) → unsigned_abs z < n + 1
abs_from (pos a) n h k = omega (arith, ints)
abs_from (negsuc a) n h k = omega (arith, ints)
