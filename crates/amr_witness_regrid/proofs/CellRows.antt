-- The cells of a box, one more cell and one more row at a time.
use Rattle.std.proofs.Common.{◌≡◌, ℕ, suc, ◌+◌, ◌*◌, ◌<◌, ◌≤◌, ℤ, pos, negsuc, neg_ℤ, ◌+ℤ◌, ◌-ℤ◌, ◌*ℤ◌, ◌≤ℤ◌, sym, ap, ◌∙◌, arith, List, [], ◌∷◌, ◌++◌, map, append_assoc, zero-add}
use Rattle.std.proofs.lemmas.Int.{ints}
use Rattle.std.proofs.Math.Nat.{mul-le-mul_left}
use Rattle.amr_box.specs.Cells.{at_least_zero, cell, Extent, extent}
use mir.Val.{to_z}
use mir.Syntax.{w32}
use Rattle.std.specs.List.{flat_map, range_with_len}
use Rattle.std.proofs.lemmas.List.Concat.{flat_map-append}
use Rattle.std.proofs.lemmas.List.FromFn.{map-range_with_len_more}
use Rattle.std.proofs.lemmas.List.{append-nil}
use Rattle.amr_box.specs.declared.Cell.{Cell}
use Rattle.amr_box.proofs.Numbers.{side-is}
use Rattle.amr_boxlist.proofs.PatchBoxes.{range_more}

pub cell_more : (f : ℕ → Cell) (i : ℕ) (l k : List Cell) (c : Cell) → k ≡ l ++ map f (range_with_len 0 i) → c ≡ f i → k ++ c ∷ [] ≡ l ++ map f (range_with_len 0 (i + 1))
cell_more f i l k c is e =
    ap (λ t. t ++ c ∷ []) is
    ∙ append_assoc l (map f (range_with_len 0 i)) (c ∷ [])
    ∙ ap (λ (t : Cell). l ++ (map f (range_with_len 0 i) ++ t ∷ [])) e
    ∙ ap (λ t. l ++ t) (sym (map-range_with_len_more f 0 i i (omega arith)))

pub row_more : (f : ℕ → List Cell) (j : ℕ) (k more : List Cell) → k ≡ flat_map f (range_with_len 0 j) → more ≡ k ++ f j → more ≡ flat_map f (range_with_len 0 (j + 1))
row_more f j k more is e =
    e
    ∙ ap (λ t. t ++ f j) is
    ∙ sym (ap (flat_map f) (range_more 0 j) ∙ flat_map-append f (range_with_len 0 j) ((0 + j) ∷ []) ∙ last)
  where
    last : flat_map f (range_with_len 0 j) ++ flat_map f ((0 + j) ∷ []) ≡ flat_map f (range_with_len 0 j) ++ f j
    last = ap (λ (k : ℕ). flat_map f (range_with_len 0 j) ++ flat_map f (k ∷ [])) (zero-add j) ∙ ap (λ t. flat_map f (range_with_len 0 j) ++ t) (append-nil (f j))

pub inside_side : (low high : ℤ) (i : ℕ) → low ≤ℤ high → i < at_least_zero (high +ℤ pos 1 -ℤ low) → pos i ≤ℤ (high -ℤ low)
inside_side low high i h k = let e = side-is low high h in omega (arith, ints, e, k)

pub product_up : (n : ℕ) (a b : ℤ) → pos 0 ≤ℤ a → a ≤ℤ b → (pos n *ℤ a) ≤ℤ (pos n *ℤ b)
product_up n (pos a) (pos b) h k = let up : n * a ≤ n * b = mul-le-mul_left n (omega (arith, ints, k)) in omega (arith, ints, up)
product_up n (pos a) (negsuc b) h k = absurd (omega (arith, ints, k))
product_up n (negsuc a) b h k = absurd (omega (arith, ints, h))

pub product_is : (n : ℕ) (z : ℤ) (u : ℕ) → z ≡ pos u → pos n *ℤ z ≡ pos (n * u)
product_is n z u e = ap (λ y. pos n *ℤ y) e

pub product_low : (n : ℕ) (z : ℤ) → pos 0 ≤ℤ z → pos 0 ≤ℤ (pos n *ℤ z)
product_low n (pos a) h = omega (arith, ints)
product_low n (negsuc a) h = absurd (omega (arith, ints, h))

module _ (n : ℕ) (z : ℤ) (a : ℕ) (is : z ≡ pos a) (few : n ≤ 8) (high : z ≤ℤ pos 4096) where
  product_small : n * a ≤ n * 4096
  product_small = mul-le-mul_left n (omega (arith, ints, is, high))

  pub times_is : to_z w32 (n * a) ≡ pos n *ℤ z
  times_is = let e : to_z w32 (n * a) ≡ pos (n * a) = omega (arith, ints, product_small, few) in e ∙ sym (product_is n z a is)

  pub times_low : pos 0 ≤ℤ to_z w32 (n * a)
  times_low = omega (arith, ints, product_small, few)

  pub times_high : to_z w32 (n * a) ≤ℤ pos 32768
  times_high = omega (arith, ints, product_small, few)

pub corners_are : (b : Extent) (w s e n w' s' e' n' : ℤ) → b ≡ extent (cell w s) (cell e n) → w ≡ w' → s ≡ s' → e ≡ e' → n ≡ n' → b ≡ extent (cell w' s') (cell e' n')
corners_are b w s e n w' s' e' n' is x y z t = is ∙ (λ i. extent (cell (x i) (y i)) (cell (z i) (t i)))

pub product_high : (n : ℕ) (z : ℤ) → n ≤ 8 → z ≤ℤ pos 4096 → (pos n *ℤ z) ≤ℤ pos 32768
product_high n (pos a) few h = let up : n * a ≤ n * 4096 = mul-le-mul_left n (omega (arith, ints, h)) in omega (arith, ints, up, few)
product_high n (negsuc a) few h = below (n * suc a)
  where
    below : (k : ℕ) → neg_ℤ (pos k) ≤ℤ pos 32768
    below k = omega (arith, ints)
