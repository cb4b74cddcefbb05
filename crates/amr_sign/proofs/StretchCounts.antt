-- Counts of the bits of columns by the stretches of bits that begin and end in each row.
use Rattle.std.proofs.Common.{◌≡◌, ℕ, zero, suc, ◌+◌, ◌-◌, ◌*◌, ◌/◌, ◌%◌, ◌^◌, ◌<◌, ◌≤◌, ◌⊎◌, inl, inr, min, max, Bool, true, false, ◌&&◌, not, List, refl, sym, ap, ◌∙◌, arith, add-one, add-zero}
use lib.Count.{ones-le}
use Rattle.std.specs.Prelude.{◌==◌, bit_and, bit_or, bit_xor, count_ones}
use Rattle.std.specs.Int.{bit_at}
use mir.Val.{bool_byte}
use Rattle.std.specs.List.{slice_range}
use Rattle.std.proofs.lemmas.Bool.{and_parts, cases_lt, false≢true}
use Rattle.std.proofs.lemmas.Nat.Bits.{bit_at-lt, bit_at-suc, bit_at-zero, bit_at_and, bit_at_cat_low, bit_at_lowest, bit_at_or, bit_at_xor}
use Rattle.amr_sign.specs.Counts.{bit, count_to}
use Rattle.amr_sign.specs.Stretches.{begins, ends, in_span, open_stretches, preceding}
use Rattle.amr_sign.specs.Words.{bit_of, word_bit}
use Rattle.amr_sign.proofs.Bits.{above-window, below-window, count_to-none, in-window, word_bit-zero}
use Rattle.amr_sign.proofs.Counts.{count_to_bound, count_to_more}
use Rattle.amr_sign.proofs.Parts.{row_bit-slice}

-- ---- words

apart_bits : (a b : ℕ) → a < 2 → b < 2 → (min a ((a + b) % 2) == 1) ≡ ((a == 1) && not (b == 1))
apart_bits zero zero h g = refl
apart_bits zero (suc zero) h g = refl
apart_bits (suc zero) zero h g = refl
apart_bits (suc zero) (suc zero) h g = refl
apart_bits (suc (suc a)) b h g = absurd (omega arith)
apart_bits a (suc (suc b)) h g = absurd (omega arith)

pub apart-bit : (word other i : ℕ) → (bit_at (bit_and word (bit_xor word other)) i == 1) ≡ ((bit_at word i == 1) && not (bit_at other i == 1))
apart-bit word other i =
    ap (λ (b : ℕ). b == 1) (bit_at_and word (bit_xor word other) i ∙ ap (min (bit_at word i)) (bit_at_xor word other i))
    ∙ apart_bits (bit_at word i) (bit_at other i) (bit_at-lt word i) (bit_at-lt other i)

even : (w : ℕ) → w * 2 % 18446744073709551616 % 2 ≡ 0
even w = omega arith

doubled : (w i : ℕ) → i < 63 → bit_at (w * 2 % 18446744073709551616) (i + 1) ≡ bit_at w i
doubled w i h =
    let next : i + 1 ≡ suc i = omega arith in
    let below : i + 1 < 64 = omega arith in
    let parts : w * 2 / 18446744073709551616 * 2 ^ 64 + w * 2 % 18446744073709551616 ≡ w * 2 = omega arith in
    let half : w * 2 / 2 ≡ w = omega arith in
    sym (bit_at_cat_low (w * 2 / 18446744073709551616) 64 (w * 2 % 18446744073709551616) (i + 1) below)
    ∙ ap (λ (n : ℕ). bit_at n (i + 1)) parts
    ∙ ap (bit_at (w * 2)) next
    ∙ bit_at-suc (w * 2) i
    ∙ ap (λ (n : ℕ). bit_at n i) half

first-alone : (t : Bool) (i : ℕ) → bit_at (bool_byte t) (i + 1) ≡ 0
first-alone true i = ap (bit_at 1) (add-one i) ∙ bit_at-suc 1 i ∙ bit_at-zero i
first-alone false i = bit_at-zero (i + 1)

pub raised-first : (w : ℕ) (t : Bool) → (bit_at (bit_or (w * 2 % 18446744073709551616) (bool_byte t)) 0 == 1) ≡ t
raised-first w true =
    let one : bit_at 1 0 ≡ 1 = bit_at_lowest 1 in
    let small : bit_at (w * 2 % 18446744073709551616) 0 < 2 = bit_at-lt (w * 2 % 18446744073709551616) 0 in
    let top : max (bit_at (w * 2 % 18446744073709551616) 0) (bit_at 1 0) ≡ 1 = omega arith in
    ap (λ (b : ℕ). b == 1) (bit_at_or (w * 2 % 18446744073709551616) 1 0 ∙ top)
raised-first w false =
    let none : bit_at 0 0 ≡ 0 = bit_at-zero 0 in
    let low : bit_at (w * 2 % 18446744073709551616) 0 ≡ 0 = bit_at_lowest (w * 2 % 18446744073709551616) ∙ even w in
    let top : max (bit_at (w * 2 % 18446744073709551616) 0) (bit_at 0 0) ≡ 0 = omega arith in
    ap (λ (b : ℕ). b == 1) (bit_at_or (w * 2 % 18446744073709551616) 0 0 ∙ top)

pub raised-others : (w i : ℕ) (t : Bool) → i < 63 → (bit_at (bit_or (w * 2 % 18446744073709551616) (bool_byte t)) (i + 1) == 1) ≡ (bit_at w i == 1)
raised-others w i t h =
    let none : bit_at (bool_byte t) (i + 1) ≡ 0 = first-alone t i in
    let same : bit_at (w * 2 % 18446744073709551616) (i + 1) ≡ bit_at w i = doubled w i h in
    let top : max (bit_at (w * 2 % 18446744073709551616) (i + 1)) (bit_at (bool_byte t) (i + 1)) ≡ bit_at w i = omega arith in
    ap (λ (b : ℕ). b == 1) (bit_at_or (w * 2 % 18446744073709551616) (bool_byte t) (i + 1) ∙ top)

-- ---- the stretches of a word

module _ (p : ℕ → Bool) (k word : ℕ) (bits : (i : ℕ) → i < 64 → (bit_at word i == 1) ≡ p (64 * k + i)) where
  pub lifted-is : (lifted : ℕ) (first : Bool) → first ≡ preceding p (64 * k) → (bit_at lifted 0 == 1) ≡ first → ((i : ℕ) → i < 63 → (bit_at lifted (i + 1) == 1) ≡ (bit_at word i == 1)) → (i : ℕ) → i < 64 → (bit_at lifted i == 1) ≡ preceding p (64 * k + i)
  lifted-is lifted first before low others zero h = low ∙ before ∙ ap (preceding p) (sym (add-zero (64 * k)))
  lifted-is lifted first before low others (suc i) h =
      let next : i + 1 ≡ suc i = add-one i in
      let place : 64 * k + suc i ≡ suc (64 * k + i) = omega arith in
      ap (λ (n : ℕ). bit_at lifted n == 1) (sym next) ∙ others i (omega arith) ∙ bits i (omega arith) ∙ ap (preceding p) (sym place)

  pub begun-bits : (lifted begun : ℕ) → ((i : ℕ) → i < 64 → (bit_at lifted i == 1) ≡ preceding p (64 * k + i)) → ((i : ℕ) → (bit_at begun i == 1) ≡ ((bit_at word i == 1) && not (bit_at lifted i == 1))) → (i : ℕ) → i < 64 → (bit_at begun i == 1) ≡ begins p (64 * k + i)
  begun-bits lifted begun lifts is i h = is i ∙ ap (λ (t : Bool). t && not (bit_at lifted i == 1)) (bits i h) ∙ ap (λ (t : Bool). p (64 * k + i) && not t) (lifts i h)

  pub ended-bits : (lifted ended : ℕ) → ((i : ℕ) → i < 64 → (bit_at lifted i == 1) ≡ preceding p (64 * k + i)) → ((i : ℕ) → (bit_at ended i == 1) ≡ ((bit_at lifted i == 1) && not (bit_at word i == 1))) → (i : ℕ) → i < 64 → (bit_at ended i == 1) ≡ ends p (64 * k + i)
  ended-bits lifted ended lifts is i h = is i ∙ ap (λ (t : Bool). t && not (bit_at word i == 1)) (lifts i h) ∙ ap (λ (t : Bool). preceding p (64 * k + i) && not t) (bits i h)

  pub next-first : (bit_at word 63 == 1) ≡ preceding p (64 * (k + 1))
  next-first =
      let place : suc (64 * k + 63) ≡ 64 * (k + 1) = omega arith in
      bits 63 (omega arith) ∙ ap (preceding p) place

-- a word without a bit, after a place without one
zero-bit : (i : ℕ) → (bit_at 0 i == 1) ≡ false
zero-bit i = ap (λ (b : ℕ). b == 1) (bit_at-zero i)

module _ (p : ℕ → Bool) (k : ℕ) (bits : (i : ℕ) → i < 64 → (bit_at 0 i == 1) ≡ p (64 * k + i)) (before : false ≡ preceding p (64 * k)) where
  quiet-lifts : (i : ℕ) → i < 64 → (bit_at 0 i == 1) ≡ preceding p (64 * k + i)
  quiet-lifts = lifted-is p k 0 bits 0 false before (zero-bit 0) (λ i h. zero-bit (i + 1) ∙ sym (zero-bit i))

  pub quiet-begins : (i : ℕ) → i < 64 → (bit_at 0 i == 1) ≡ begins p (64 * k + i)
  quiet-begins = begun-bits p k 0 bits 0 0 quiet-lifts (λ i. zero-bit i ∙ sym (ap (λ (t : Bool). t && not (bit_at 0 i == 1)) (zero-bit i)))

  pub quiet-ends : (i : ℕ) → i < 64 → (bit_at 0 i == 1) ≡ ends p (64 * k + i)
  quiet-ends = ended-bits p k 0 bits 0 0 quiet-lifts (λ i. zero-bit i ∙ sym (ap (λ (t : Bool). t && not (bit_at 0 i == 1)) (zero-bit i)))

  pub quiet-next : false ≡ preceding p (64 * (k + 1))
  quiet-next = sym (zero-bit 63) ∙ next-first p k 0 bits

pub no-more : (base x old : ℕ) → old ≡ old + bit (word_bit 0 base x)
no-more base x old = let none : bit (word_bit 0 base x) ≡ 0 = ap bit (word_bit-zero base x) in omega arith

pub no-ones : (count : ℕ) → count ≡ count + count_ones 0
no-ones count = let none : count_ones 0 ≤ 0 = ones-le 0 0 (omega arith) in omega arith

-- ---- places of a row between two others

module _ (row : List ℕ) (low high : ℕ) where
  span-inside : (x : ℕ) → in_span row low high x ≡ true → (low ≤ x) × (x ≤ high)
  span-inside x on = choose (cases_lt x low) (cases_lt high x)
    where
      choose : (x < low) ⊎ (low ≤ x) → (high < x) ⊎ (x ≤ high) → (low ≤ x) × (x ≤ high)
      choose (inl a) b = absurd (false≢true (sym (below-window row low high x a) ∙ on))
      choose (inr a) (inl b) = absurd (false≢true (sym (above-window row low high x b) ∙ on))
      choose (inr a) (inr b) = (a, b)

  pub begins-inside : (size x : ℕ) → size ≡ high + 1 - low → begins (in_span row low high) x ≡ true → (low ≤ x) × (x < low + size)
  begins-inside size x e on =
      let at = span-inside x (and_parts (in_span row low high x) (not (preceding (in_span row low high) x)) on).0 in
      (at.0, omega (arith, at.0, at.1))

  pub ends-inside : (size x : ℕ) → size ≡ high + 2 - low → ends (in_span row low high) x ≡ true → (low ≤ x) × (x < low + size)
  ends-inside size zero e on = absurd (false≢true on)
  ends-inside size (suc x) e on =
      let at = span-inside x (and_parts (in_span row low high x) (not (in_span row low high (suc x))) on).0 in
      (omega (arith, at.0), omega (arith, at.0, at.1))

  pub none-preceding : (x : ℕ) → x ≤ low → preceding (in_span row low high) x ≡ false
  none-preceding zero h = refl
  none-preceding (suc x) h = below-window row low high x (omega arith)

-- ---- the stretches of a row, column by column

module _ (words : List ℕ) (per_row west east south y : ℕ) (from : south ≤ y) (inside : east < 64 * per_row) where
  abbrev pub row_words : List ℕ
  row_words = slice_range words (y * per_row) ((y + 1) * per_row)

  abbrev pub cell_bit : ℕ → ℕ → Bool
  cell_bit i j = bit_of per_row words (west + i) (south + j)

  cell-is : (c : ℕ) → west + c ≤ east → in_span row_words west east (west + c) ≡ cell_bit c (y - south)
  cell-is c h =
      let place : y ≡ south + (y - south) = omega arith in
      in-window row_words west east (west + c) (omega arith) h
      ∙ row_bit-slice words per_row y (west + c) (omega arith)
      ∙ ap (bit_of per_row words (west + c)) place

  preceding-is : (c : ℕ) → west + c ≤ east → preceding (in_span row_words west east) (west + c) ≡ preceding (λ i. cell_bit i (y - south)) c
  preceding-is zero h = none-preceding row_words west east (west + 0) (omega arith)
  preceding-is (suc c) h =
      let place : west + suc c ≡ suc (west + c) = omega arith in
      ap (preceding (in_span row_words west east)) place ∙ cell-is c (omega arith)

  pub begins-is : (c : ℕ) → west + c ≤ east → begins (in_span row_words west east) (west + c) ≡ begins (λ i. cell_bit i (y - south)) c
  begins-is c h =
      ap (λ (t : Bool). t && not (preceding (in_span row_words west east) (west + c))) (cell-is c h)
      ∙ ap (λ (t : Bool). cell_bit c (y - south) && not t) (preceding-is c h)

  pub ends-is : (c : ℕ) → west + c ≤ east → ends (in_span row_words west east) (west + c) ≡ ends (λ i. cell_bit i (y - south)) c
  ends-is c h =
      ap (λ (t : Bool). t && not (in_span row_words west east (west + c))) (preceding-is c h)
      ∙ ap (λ (t : Bool). preceding (λ i. cell_bit i (y - south)) c && not t) (cell-is c h)

pub counted-next : (test : ℕ → Bool) (south y now new : ℕ) (t : Bool) → south ≤ y → t ≡ test (y - south) → now ≡ count_to test (y - south) → new ≡ now + bit t → new ≡ count_to test (y + 1 - south)
counted-next test south y now new t from same so_far added =
    let next : y + 1 - south ≡ (y - south) + 1 = omega arith in
    let here : bit t ≡ bit (test (y - south)) = ap bit same in
    let more : count_to test ((y - south) + 1) ≡ count_to test (y - south) + bit (test (y - south)) = count_to_more test (y - south) in
    let whole : count_to test (y + 1 - south) ≡ count_to test ((y - south) + 1) = ap (count_to test) next in
    omega arith

-- ---- the stretches that are open

step : (p q : Bool) → bit p + bit (q && not p) ≡ bit q + bit (p && not q)
step true true = refl
step true false = refl
step false true = refl
step false false = refl

part-le : (p q : Bool) → bit (p && not q) ≤ bit p
part-le true true = omega arith
part-le true false = omega arith
part-le false q = omega arith

more-one : (f : ℕ → Bool) (n : ℕ) → count_to f (suc n) ≡ count_to f n + bit (f n)
more-one f n = ap (count_to f) (sym (add-one n)) ∙ count_to_more f n

steps : (p q : ℕ → Bool) (n : ℕ) → count_to p n + count_to (λ j. q j && not (p j)) n ≡ count_to q n + count_to (λ j. p j && not (q j)) n
steps p q zero = refl
steps p q (suc n) =
    let a : count_to p (suc n) ≡ count_to p n + bit (p n) = more-one p n in
    let b : count_to (λ j. q j && not (p j)) (suc n) ≡ count_to (λ j. q j && not (p j)) n + bit (q n && not (p n)) = more-one (λ j. q j && not (p j)) n in
    let c : count_to q (suc n) ≡ count_to q n + bit (q n) = more-one q n in
    let d : count_to (λ j. p j && not (q j)) (suc n) ≡ count_to (λ j. p j && not (q j)) n + bit (p n && not (q n)) = more-one (λ j. p j && not (q j)) n in
    let one : bit (p n) + bit (q n && not (p n)) ≡ bit (q n) + bit (p n && not (q n)) = step (p n) (q n) in
    let rest : count_to p n + count_to (λ j. q j && not (p j)) n ≡ count_to q n + count_to (λ j. p j && not (q j)) n = steps p q n in
    omega arith

fewer : (p q : ℕ → Bool) (n : ℕ) → count_to (λ j. p j && not (q j)) n ≤ count_to p n
fewer p q zero = omega arith
fewer p q (suc n) =
    let a : count_to p (suc n) ≡ count_to p n + bit (p n) = more-one p n in
    let d : count_to (λ j. p j && not (q j)) (suc n) ≡ count_to (λ j. p j && not (q j)) n + bit (p n && not (q n)) = more-one (λ j. p j && not (q j)) n in
    let one : bit (p n && not (q n)) ≤ bit (p n) = part-le (p n) (q n) in
    let rest : count_to (λ j. p j && not (q j)) n ≤ count_to p n = fewer p q n in
    omega arith

-- the bits of n rows: in each of the first columns so many stretches begin, and so many end before it
pub record AreStretches (test : ℕ → ℕ → Bool) (begun ended : ℕ → ℕ) (n size : ℕ) : Type 0 where
  pub begin : (c : ℕ) → c < size → begun c ≡ count_to (λ j. begins (λ i. test i j) c) n
  pub end : (c : ℕ) → c < size → ended c ≡ count_to (λ j. ends (λ i. test i j) c) n

module _ (test : ℕ → ℕ → Bool) (begun ended : ℕ → ℕ) (n size : ℕ) (stretches : AreStretches test begun ended n size) where
  open-is : (c : ℕ) → c ≤ size → open_stretches begun ended c ≡ count_to (λ j. preceding (λ i. test i j) c) n
  open-is zero h = sym (count_to-none (λ j. false) n (λ k below. refl))
  open-is (suc c) h =
      let before : open_stretches begun ended c ≡ count_to (λ j. preceding (λ i. test i j) c) n = open-is c (omega arith) in
      let up : begun c ≡ count_to (λ j. test c j && not (preceding (λ i. test i j) c)) n = stretches.begin c (omega arith) in
      let down : ended c ≡ count_to (λ j. preceding (λ i. test i j) c && not (test c j)) n = stretches.end c (omega arith) in
      let all : count_to (λ j. preceding (λ i. test i j) c) n + count_to (λ j. test c j && not (preceding (λ i. test i j) c)) n ≡ count_to (λ j. test c j) n + count_to (λ j. preceding (λ i. test i j) c && not (test c j)) n = steps (λ j. preceding (λ i. test i j) c) (λ j. test c j) n in
      let part : count_to (λ j. preceding (λ i. test i j) c && not (test c j)) n ≤ count_to (λ j. preceding (λ i. test i j) c) n = fewer (λ j. preceding (λ i. test i j) c) (λ j. test c j) n in
      omega arith

  pub open-next : (c : ℕ) → c < size → open_stretches begun ended (c + 1) ≡ count_to (λ j. test c j) n
  open-next c h = ap (open_stretches begun ended) (add-one c) ∙ open-is (suc c) (omega arith)

  pub open-fits : (c : ℕ) → c < size → n ≤ 2 ^ 31 → (ended c ≤ open_stretches begun ended c) × ((open_stretches begun ended c - ended c) + begun c < 2 ^ 32)
  open-fits c h fits =
      let before : open_stretches begun ended c ≡ count_to (λ j. preceding (λ i. test i j) c) n = open-is c (omega arith) in
      let after : (open_stretches begun ended c - ended c) + begun c ≡ count_to (λ j. test c j) n = open-is (suc c) (omega arith) in
      let down : ended c ≡ count_to (λ j. preceding (λ i. test i j) c && not (test c j)) n = stretches.end c h in
      let part : count_to (λ j. preceding (λ i. test i j) c && not (test c j)) n ≤ count_to (λ j. preceding (λ i. test i j) c) n = fewer (λ j. preceding (λ i. test i j) c) (λ j. test c j) n in
      let few : count_to (λ j. test c j) n ≤ n = count_to_bound (λ j. test c j) n in
      (omega arith, omega arith)
