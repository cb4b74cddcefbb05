-- Tests on whole numbers and what they tell, sides of a box, halves.
use Rattle.std.proofs.Common.{◌≡◌, ℕ, zero, suc, ◌+◌, ◌<◌, true, false, ◌++◌, ◌∷◌, [], List, ℤ, pos, negsuc, ◌+ℤ◌, ◌-ℤ◌, ◌≤ℤ◌, ◌<ℤ◌, refl, ap, ◌∙◌, arith}
use Rattle.std.specs.Prelude.{int_le, int_lt}
use Rattle.std.specs.List.{range_with_len}
use Rattle.std.proofs.lemmas.Int.{ints}
use Rattle.amr_box.specs.Cells.{at_least_zero, half, within}

-- ---- tests

pub le_from : (a b : ℤ) → int_le a b ≡ true → a ≤ℤ b
le_from a b h = grind (arith, ints)

pub above_from : (a b : ℤ) → int_le a b ≡ false → b <ℤ a
above_from a b h = grind (arith, ints)

pub below_from : (a b : ℤ) → int_lt a b ≡ true → a <ℤ b
below_from a b h = grind (arith, ints)

pub not_below_from : (a b : ℤ) → int_lt a b ≡ false → b ≤ℤ a
not_below_from a b h = grind (arith, ints)

pub is_between : (low high z : ℤ) → low ≤ℤ z → z ≤ℤ high → within low high z ≡ true
is_between low high z h k = grind (arith, ints)

pub none_within : (low z : ℤ) → within low (low +ℤ pos 0 -ℤ pos 1) z ≡ false
none_within low z = grind (arith, ints)

-- ---- one less, one more

pub plus_zero : (z : ℤ) → z ≡ z +ℤ pos 0
plus_zero z = omega (arith, ints)

pub plus_none : (z : ℤ) → z +ℤ pos 0 ≡ z
plus_none z = omega (arith, ints)

pub less_and_more : (z : ℤ) → z -ℤ pos 1 +ℤ pos 1 ≡ z
less_and_more z = omega (arith, ints)

pub more_and_less : (z : ℤ) → z +ℤ pos 1 -ℤ pos 1 ≡ z
more_and_less z = omega (arith, ints)

pub plus_minus_one : (z : ℤ) → z +ℤ negsuc 0 ≡ z -ℤ pos 1
plus_minus_one z = omega (arith, ints)

pub minus_one : (z : ℤ) → z -ℤ pos 1 ≡ z +ℤ negsuc 0
minus_one z = omega (arith, ints)

-- ---- sides of a box

pub at_least_zero-same : (z : ℤ) → pos 0 ≤ℤ z → pos (at_least_zero z) ≡ z
at_least_zero-same (pos n) h = refl
at_least_zero-same (negsuc n) h = absurd (omega (arith, ints))

pub at_least_zero-is : (z : ℤ) (n : ℕ) → z ≡ pos n → at_least_zero z ≡ n
at_least_zero-is z n e = ap at_least_zero e

pub side-is : (low high : ℤ) → low ≤ℤ high → pos (at_least_zero (high +ℤ pos 1 -ℤ low)) ≡ high +ℤ pos 1 -ℤ low
side-is low high h = grind (arith, ints)

pub domain_side : (n : ℕ) → at_least_zero (pos n -ℤ pos 1 +ℤ pos 1 -ℤ pos 0) ≡ n
domain_side n = let e : (pos n -ℤ pos 1 +ℤ pos 1 -ℤ pos 0) ≡ pos n = omega (arith, ints) in ap at_least_zero e

pub half_le : (a b : ℤ) → a ≤ℤ b → half a ≤ℤ half b
half_le (pos a) (pos b) h = omega (arith, ints)
half_le (pos a) (negsuc b) h = absurd (omega (arith, ints))
half_le (negsuc a) (pos b) h = omega (arith, ints)
half_le (negsuc a) (negsuc b) h = omega (arith, ints)

-- ---- ranges

pub range_parts : (a m n : ℕ) → range_with_len a (m + n) ≡ range_with_len a m ++ range_with_len (a + m) n
range_parts a zero n = let e : 0 + n ≡ n = omega arith in let f : a ≡ a + 0 = omega arith in λ i. range_with_len (f i) (e i)
range_parts a (suc m) n =
    let e : suc m + n ≡ suc (m + n) = omega arith in
    let f : a + 1 + m ≡ a + suc m = omega arith in
    ap (range_with_len a) e ∙ ap (λ (xs : List ℕ). a ∷ xs) (range_parts (a + 1) m n ∙ ap (λ k. range_with_len (a + 1) m ++ range_with_len k n) f)

pub range_more : (a n : ℕ) → range_with_len a (suc n) ≡ range_with_len a n ++ (a + n) ∷ []
range_more a zero = ap (λ (k : ℕ). k ∷ []) (omega arith)
range_more a (suc n) = ap (λ (ks : List ℕ). a ∷ ks) (range_more (a + 1) n ∙ ap (λ (k : ℕ). range_with_len (a + 1) n ++ k ∷ []) (omega arith))
