-- The low and the high bits of a word.
use Rattle.std.proofs.Common.{◌≡◌, ℕ, ◌+◌, ◌-◌, ◌*◌, ◌/◌, ◌%◌, ◌^◌, ◌<◌, ◌≤◌, Bool, true, false, ◌&&◌, refl, ap, ◌∙◌, arith, min}
use Rattle.std.specs.Prelude.{nat_le, ◌==◌, bit_and}
use Rattle.std.specs.Int.{bit_at}
use Rattle.std.proofs.lemmas.Nat.Bits.{bit_at_and, bit_at-lt, bit_at_mask_below, bit_at_mask_inside, bit_at_ones, bit_at_ones_above, ones_shl, ones_shr}
use Rattle.std.proofs.lemmas.Bool.Decides.{nat_tests}
use Rattle.std.proofs.lemmas.Bool.{leb-false, leb-true}
use Rattle.amr_tags.specs.Bits.{bit}

kept : (x y : ℕ) → x < 2 → y ≡ 1 → (min x y == 1) ≡ ((x == 1) && true)
kept x y h e = grind (arith, nat_tests)

dropped : (x y : ℕ) → y ≡ 0 → (min x y == 1) ≡ ((x == 1) && false)
dropped x y e = grind (arith, nat_tests)

-- a word masked by one whose bit i is the test
masked : (w m i : ℕ) (t : Bool) → (t ≡ true → bit_at m i ≡ 1) → (t ≡ false → bit_at m i ≡ 0) → bit (bit_and w m) i ≡ (bit w i && t)
masked w m i true f g = ap (λ k. k == 1) (bit_at_and w m i) ∙ kept (bit_at w i) (bit_at m i) (bit_at-lt w i) (f refl)
masked w m i false f g = ap (λ k. k == 1) (bit_at_and w m i) ∙ dropped (bit_at w i) (bit_at m i) (g refl)

pub high_bits : (w k i : ℕ) → k < 64 → i < 64 → bit (bit_and w (18446744073709551615 * 2 ^ k % 18446744073709551616)) i ≡ (bit w i && nat_le k i)
high_bits w k i h below =
    let fits : k ≤ 64 = omega arith in
    ap (λ m. bit (bit_and w m) i) (ones_shl 64 k fits)
    ∙ masked w (2 ^ 64 - 2 ^ k) i (nat_le k i) (λ e. bit_at_mask_inside k 64 i (leb-true k i e) below) (λ e. bit_at_mask_below k 64 i (leb-false k i e))

pub low_bits : (w k i : ℕ) → k < 64 → i < 64 → bit (bit_and w (18446744073709551615 / 2 ^ (63 - k))) i ≡ (bit w i && nat_le i k)
low_bits w k i h below =
    let fits : 63 - k ≤ 64 = omega arith in
    let count : 64 - (63 - k) ≡ k + 1 = omega arith in
    ap (λ m. bit (bit_and w m) i) (ones_shr 64 (63 - k) fits ∙ ap (λ n. 2 ^ n - 1) count)
    ∙ masked w (2 ^ (k + 1) - 1) i (nat_le i k) (λ e. bit_at_ones (k + 1) i (lt i k (leb-true i k e))) (λ e. bit_at_ones_above (k + 1) i (gt i k (leb-false i k e)))
  where
    lt : (i k : ℕ) → i ≤ k → i < k + 1
    lt i k h = omega arith

    gt : (i k : ℕ) → k < i → k + 1 ≤ i
    gt i k h = omega arith
