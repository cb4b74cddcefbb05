-- Words of bits, a bit for each two.
use Rattle.std.proofs.Common.{◌≡◌, ℕ, ◌+◌, ◌-◌, ◌*◌, ◌%◌, ◌<◌, ◌≤◌, Bool, true, false, ◌&&◌, ◌||◌, cond, refl, sym, ap, ◌∙◌, arith, List}
use Rattle.std.specs.Prelude.{◌==◌, bit_or, nat_lt}
use Rattle.std.proofs.lemmas.Nat.Bits.{bit_at-zero}
use Rattle.std.proofs.lemmas.Bool.Decides.{nat_tests}
use Rattle.std.proofs.lemmas.Bool.{eqb-true, or_parts}
use Rattle.amr_tags.specs.Bits.{bit}
use Rattle.amr_tags.specs.Coarse.{coarse_bit, pair, paired, there}
use Rattle.amr_tags.proofs.Shifts.{or-bit}

-- ---- a word that is 0

zero-bit : (i : ℕ) → bit 0 i ≡ false
zero-bit i = ap (λ k. k == 1) (bit_at-zero i)

same-cond : (t : Bool) → cond t false false ≡ false
same-cond true = refl
same-cond false = refl

module _ (low high : ℕ) (none : bit_or low high ≡ 0) where
  both : (i : ℕ) → (bit low i || bit high i) ≡ false
  both i = sym (or-bit low high i) ∙ ap (λ (v : ℕ). bit v i) none ∙ zero-bit i

  low_none : (i : ℕ) → pair low i ≡ false
  low_none i = λ k. (or_parts (bit low (2 * i)) (bit high (2 * i)) (both (2 * i))).0 k || (or_parts (bit low (2 * i + 1)) (bit high (2 * i + 1)) (both (2 * i + 1))).0 k

  high_none : (i : ℕ) → pair high i ≡ false
  high_none i = λ k. (or_parts (bit low (2 * i)) (bit high (2 * i)) (both (2 * i))).1 k || (or_parts (bit low (2 * i + 1)) (bit high (2 * i + 1)) (both (2 * i + 1))).1 k

  pub zero-paired : (i : ℕ) → bit 0 i ≡ paired low high i
  zero-paired i = zero-bit i ∙ sym ((λ k. cond (nat_lt i 32) (low_none i k) (high_none (i - 32) k)) ∙ same-cond (nat_lt i 32))

-- ---- one pair more

low_one : (p q : Bool) → ((p && true) || (q && false)) ≡ p
low_one true q = refl
low_one false true = refl
low_one false false = refl

high_one : (p q : Bool) → ((p && false) || (q && true)) ≡ q
high_one true true = refl
high_one true false = refl
high_one false true = refl
high_one false false = refl

neither : (t p q : Bool) → ((t || (p && false)) || (q && false)) ≡ t
neither true p q = refl
neither false true true = refl
neither false true false = refl
neither false false true = refl
neither false false false = refl

step_low : (t1 t2 a b h p q x y : Bool) → t1 ≡ false → t2 ≡ true → a ≡ true → b ≡ false → h ≡ true → p ≡ x → (((t1 && cond h x y) || (p && a)) || (q && b)) ≡ (t2 && cond h x y)
step_low t1 t2 a b h p q x y e1 e2 ea eb eh ep =
    (λ i. ((e1 i && cond (eh i) x y) || (p && ea i)) || (q && eb i)) ∙ low_one p q ∙ ep ∙ sym (λ i. e2 i && cond (eh i) x y)

step_high : (t1 t2 a b h p q x y : Bool) → t1 ≡ false → t2 ≡ true → a ≡ false → b ≡ true → h ≡ false → q ≡ y → (((t1 && cond h x y) || (p && a)) || (q && b)) ≡ (t2 && cond h x y)
step_high t1 t2 a b h p q x y e1 e2 ea eb eh eq =
    (λ i. ((e1 i && cond (eh i) x y) || (p && ea i)) || (q && eb i)) ∙ high_one p q ∙ eq ∙ sym (λ i. e2 i && cond (eh i) x y)

step_none : (t1 t2 a b p q z : Bool) → t1 ≡ t2 → a ≡ false → b ≡ false → (((t1 && z) || (p && a)) || (q && b)) ≡ (t2 && z)
step_none t1 t2 a b p q z e ea eb = (λ i. ((e i && z) || (p && ea i)) || (q && eb i)) ∙ neither (t2 && z) p q

at_end : (m i : ℕ) → m ≡ i → nat_lt m i ≡ false
at_end m i e = grind (arith, nat_tests)

at_last : (m i : ℕ) → m ≡ i → nat_lt m (i + 1) ≡ true
at_last m i e = grind (arith, nat_tests)

beside_last : (m i : ℕ) → (m ≡ i → ⊥) → nat_lt m i ≡ nat_lt m (i + 1)
beside_last m i n = grind (arith, nat_tests)

not_same : (a b : ℕ) → (a == b) ≡ false → a ≡ b → ⊥
not_same a b e f = grind (arith, nat_tests)

below_half : (k : ℕ) → nat_lt k 32 ≡ true → k < 32
below_half k h = grind (arith, nat_tests)

above_half : (k : ℕ) → nat_lt k 32 ≡ false → 32 ≤ k
above_half k h = grind (arith, nat_tests)

not_past : (k i : ℕ) → k ≡ i → (k == i + 32) ≡ false
not_past k i e = grind (arith, nat_tests)

in_low : (k i : ℕ) → i < 32 → k ≡ i → nat_lt k 32 ≡ true
in_low k i h e = grind (arith, nat_tests)

in_high : (k i : ℕ) → k ≡ i + 32 → nat_lt k 32 ≡ false
in_high k i e = grind (arith, nat_tests)

module _ (low high i k : ℕ) (fits : i < 32) (inside : k < 64) where
  place_low : k ≡ i → k % 32 ≡ i
  place_low e = omega (arith, e, fits)

  place_high : k ≡ i + 32 → k % 32 ≡ i
  place_high e = omega (arith, e, fits)

  elsewhere : (k == i) ≡ false → (k == i + 32) ≡ false → nat_lt (k % 32) i ≡ nat_lt (k % 32) (i + 1)
  elsewhere e f = beside_last (k % 32) i (λ h. split h (nat_lt k 32) refl)
    where
      split : k % 32 ≡ i → (t : Bool) → nat_lt k 32 ≡ t → ⊥
      split h true l = let less = below_half k l in not_same k i e (omega (arith, h, less))
      split h false l = let more = above_half k l in not_same k (i + 32) f (omega (arith, h, more, inside))

  pub next-pair : (was p q : Bool) → was ≡ (nat_lt (k % 32) i && paired low high k) → p ≡ pair low i → q ≡ pair high i → ((was || (p && (k == i))) || (q && (k == i + 32))) ≡ (nat_lt (k % 32) (i + 1) && paired low high k)
  next-pair was p q before ep eq = ap (λ (t : Bool). (t || (p && (k == i))) || (q && (k == i + 32))) before ∙ choose (k == i) refl (k == i + 32) refl
    where
      choose : (a : Bool) → (k == i) ≡ a → (b : Bool) → (k == i + 32) ≡ b → (((nat_lt (k % 32) i && paired low high k) || (p && (k == i))) || (q && (k == i + 32))) ≡ (nat_lt (k % 32) (i + 1) && paired low high k)
      choose true ea b eb =
          let e = eqb-true k i ea in
          step_low _ _ _ _ _ p q _ _ (at_end (k % 32) i (place_low e)) (at_last (k % 32) i (place_low e)) ea (not_past k i e) (in_low k i fits e) (ep ∙ ap (pair low) (sym e))
      choose false ea true eb =
          let e = eqb-true k (i + 32) eb in
          let back : i ≡ k - 32 = omega (arith, e) in
          step_high _ _ _ _ _ p q _ _ (at_end (k % 32) i (place_high e)) (at_last (k % 32) i (place_high e)) ea eb (in_high k i e) (eq ∙ ap (pair high) back)
      choose false ea false eb = step_none _ _ _ _ p q _ (elsewhere ea eb) ea eb

pub no-pairs : (z : ℕ) (k : ℕ) (w : Bool) → z ≡ 0 → bit z k ≡ (nat_lt (k % 32) 0 && w)
no-pairs z k w e = ap (λ (v : ℕ). bit v k) e ∙ zero-bit k ∙ sym (ap (λ (t : Bool). t && w) (none (k % 32)))
  where
    none : (m : ℕ) → nat_lt m 0 ≡ false
    none m = grind (arith, nat_tests)

pub all-pairs : (k i : ℕ) (w : Bool) → 32 ≤ i → (nat_lt (k % 32) i && w) ≡ w
all-pairs k i w h = ap (λ (t : Bool). t && w) (fits (k % 32) (omega arith))
  where
    fits : (m : ℕ) → m < 32 → nat_lt m i ≡ true
    fits m e = grind (arith, nat_tests)

-- ---- words of rows

abbrev in_rows_two : ℕ → ℕ → List ℕ → ℕ → ℕ → Bool
in_rows_two p height words j n = there p height words n (2 * j) || there p height words n (2 * j + 1)

pub coarse-word : (p height : ℕ) (words : List ℕ) (k j low high r b : ℕ) → b < 64 → ((i : ℕ) → i < 64 → bit low i ≡ in_rows_two p height words j (64 * (2 * k) + i)) → ((i : ℕ) → i < 64 → bit high i ≡ in_rows_two p height words j (64 * (2 * k + 1) + i)) → ((i : ℕ) → i < 64 → bit r i ≡ paired low high i) → bit r b ≡ coarse_bit p height words (64 * k + b) j
coarse-word p height words k j low high r b small lows highs is = is b small ∙ split (nat_lt b 32) refl
  where
    split : (t : Bool) → nat_lt b 32 ≡ t → cond t (pair low b) (pair high (b - 32)) ≡ coarse_bit p height words (64 * k + b) j
    split true e =
        let less = below_half b e in
        let f : 64 * (2 * k) + 2 * b ≡ 2 * (64 * k + b) = omega arith in
        let g : 64 * (2 * k) + (2 * b + 1) ≡ 2 * (64 * k + b) + 1 = omega arith in
        let first = lows (2 * b) (omega (arith, less)) ∙ ap (in_rows_two p height words j) f in
        let second = lows (2 * b + 1) (omega (arith, less)) ∙ ap (in_rows_two p height words j) g in
        λ i. first i || second i
    split false e =
        let more = above_half b e in
        let f : 64 * (2 * k + 1) + 2 * (b - 32) ≡ 2 * (64 * k + b) = omega (arith, more) in
        let g : 64 * (2 * k + 1) + (2 * (b - 32) + 1) ≡ 2 * (64 * k + b) + 1 = omega (arith, more) in
        let first = highs (2 * (b - 32)) (omega (arith, small)) ∙ ap (in_rows_two p height words j) f in
        let second = highs (2 * (b - 32) + 1) (omega (arith, small, more)) ∙ ap (in_rows_two p height words j) g in
        λ i. first i || second i
