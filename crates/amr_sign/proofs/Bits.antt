-- Counts of the bits of words.
use Rattle.std.proofs.Common.{◌≡◌, ◌≢◌, ℕ, zero, suc, ◌+◌, ◌-◌, ◌*◌, ◌/◌, ◌%◌, ◌^◌, ◌<◌, ◌≤◌, min, Bool, true, false, ◌&&◌, List, refl, sym, ap, ◌∙◌, arith, w64, lit<, lit≤, add-one, add-zero, zero-add, ◌⊎◌, inl, inr}
use Rattle.std.proofs.Math.Bool.{and-false}
use Rattle.std.proofs.Math.Nat.{pow-suc}
use Rattle.std.proofs.lemmas.Bool.{cases_lt, cases_eq, false≢true}
use Rattle.std.proofs.lemmas.Bool.Decides.{nat_tests}
use Rattle.std.specs.Prelude.{slice_index, slice_set, length, ◌==◌, nat_le, nat_lt, count_ones, bit_and}
use Rattle.std.specs.Int.{bit_at, bit_not, trailing_zeros}
use Rattle.std.proofs.lemmas.Nat.Bits.{bit_at-lt, bit_at-suc, bit_at-zero, bit_at_lowest, bit_at_and, bit_at_mask_inside, bit_at_mask_below, bit_at_ones, bit_at_ones_above, ones_shl, ones_shr, and_pow, bit_at-trailing_zeros, bit_at_clear_same, bit_at_clear_other}
use lib.Count.{ones_step, ones-le}
use Rattle.std.proofs.Math.Pow.{pow-lt}
use Rattle.std.proofs.lemmas.Nat.{and-not, and_comm}
use Rattle.std.proofs.lemmas.List.{get_or-set_same, get_or-set_other}
use Rattle.amr_sign.specs.Counts.{bit, count_to}
use Rattle.amr_sign.specs.Words.{row_bit, word_bit}
use Rattle.amr_sign.proofs.Counts.{count_to_more, count_to-same}

pub count_to-same_below : (f g : ℕ → Bool) (n : ℕ) → ((k : ℕ) → k < n → f k ≡ g k) → count_to f n ≡ count_to g n
count_to-same_below f g zero same = refl
count_to-same_below f g (suc n) same =
    ap (count_to f) (sym (add-one n)) ∙ count_to_more f n
    ∙ ap (λ (m : ℕ). m + bit (f n)) (count_to-same_below f g n (λ k h. same k (omega arith)))
    ∙ ap (λ t. count_to g n + bit t) (same n (omega arith))
    ∙ sym (count_to_more g n) ∙ ap (count_to g) (add-one n)

pub count_to-none : (test : ℕ → Bool) (n : ℕ) → ((k : ℕ) → k < n → test k ≡ false) → count_to test n ≡ 0
count_to-none test zero none = refl
count_to-none test (suc n) none =
    let here : bit (test n) ≡ 0 = ap bit (none n (omega arith)) in
    let rest : count_to test n ≡ 0 = count_to-none test n (λ k h. none k (omega arith)) in
    ap (count_to test) (sym (add-one n)) ∙ count_to_more test n ∙ omega arith

-- the first a numbers and the b after them
pub count_to-add : (test : ℕ → Bool) (a b : ℕ) → count_to test (a + b) ≡ count_to test a + count_to (λ i. test (a + i)) b
count_to-add test a zero = ap (count_to test) (add-zero a) ∙ sym (add-zero (count_to test a))
count_to-add test a (suc b) =
    let one : a + suc b ≡ (a + b) + 1 = omega arith in
    let whole : count_to test (a + b) ≡ count_to test a + count_to (λ i. test (a + i)) b = count_to-add test a b in
    let more : count_to (λ i. test (a + i)) (b + 1) ≡ count_to (λ i. test (a + i)) b + bit (test (a + b)) = count_to_more (λ i. test (a + i)) b in
    let last : count_to (λ i. test (a + i)) (suc b) ≡ count_to (λ i. test (a + i)) (b + 1) = ap (count_to (λ i. test (a + i))) (sym (add-one b)) in
    ap (count_to test) one ∙ count_to_more test (a + b) ∙ omega arith

-- ---- the ones of a word

one-add : (n : ℕ) → 1 + n ≡ suc n
one-add n = omega arith

bit-is : (n : ℕ) → n < 2 → bit (n == 1) ≡ n
bit-is zero h = refl
bit-is (suc zero) h = refl
bit-is (suc (suc n)) h = absurd (omega arith)

pub ones-count : (d n : ℕ) → n < 2 ^ d → count_ones n ≡ count_to (λ i. bit_at n i == 1) d
ones-count zero n h = let none : count_ones n ≤ 0 = ones-le 0 n h in omega arith
ones-count (suc d) n h =
    let test : ℕ → Bool = λ i. bit_at n i == 1 in
    let half : n / 2 < 2 ^ d = let twice : n < 2 ^ d * 2 = rw pow-suc at h in omega arith in
    let lowest : count_to test 1 ≡ n % 2 = zero-add (bit (test 0)) ∙ bit-is (bit_at n 0) (bit_at-lt n 0) ∙ bit_at_lowest n in
    let rest : count_to (λ i. test (1 + i)) d ≡ count_to (λ i. bit_at (n / 2) i == 1) d
    = count_to-same (λ i. test (1 + i)) (λ i. bit_at (n / 2) i == 1) d (λ i. ap (λ (k : ℕ). bit_at n k == 1) (one-add i) ∙ ap (λ (b : ℕ). b == 1) (bit_at-suc n i)) in
    let parts : count_to test (1 + d) ≡ count_to test 1 + count_to (λ i. test (1 + i)) d = count_to-add test 1 d in
    let whole : count_to test (suc d) ≡ count_to test (1 + d) = ap (count_to test) (sym (one-add d)) in
    let halves : count_ones (n / 2) ≡ count_to (λ i. bit_at (n / 2) i == 1) d = ones-count d (n / 2) half in
    ones_step n ∙ omega arith

-- ---- masks

-- the bits from one place to another
pub mask-bits : (from to i : ℕ) → from < 64 → to < 64 → i < 64 → bit_at (bit_and (2 ^ 64 - 2 ^ from) (2 ^ (to + 1) - 1)) i ≡ bit (nat_le from i && nat_le i to)
mask-bits from to i f t h = bit_at_and (2 ^ 64 - 2 ^ from) (2 ^ (to + 1) - 1) i ∙ by_cases (cases_lt i from) (cases_lt to i)
  where
    by_cases : (i < from) ⊎ (from ≤ i) → (to < i) ⊎ (i ≤ to) → min (bit_at (2 ^ 64 - 2 ^ from) i) (bit_at (2 ^ (to + 1) - 1) i) ≡ bit (nat_le from i && nat_le i to)
    by_cases (inl a) b =
        let off : bit_at (2 ^ 64 - 2 ^ from) i ≡ 0 = bit_at_mask_below from 64 i a in
        let test : nat_le from i ≡ false = grind (arith, nat_tests) in
        rw test (omega arith)
    by_cases (inr a) (inl b) =
        let off : bit_at (2 ^ (to + 1) - 1) i ≡ 0 = bit_at_ones_above (to + 1) i (omega arith) in
        let above : nat_le from i ≡ true = grind (arith, nat_tests) in
        let below : nat_le i to ≡ false = grind (arith, nat_tests) in
        rw (above, below) (omega arith)
    by_cases (inr a) (inr b) =
        let on : bit_at (2 ^ 64 - 2 ^ from) i ≡ 1 = bit_at_mask_inside from 64 i a h in
        let also : bit_at (2 ^ (to + 1) - 1) i ≡ 1 = bit_at_ones (to + 1) i (omega arith) in
        let above : nat_le from i ≡ true = grind (arith, nat_tests) in
        let below : nat_le i to ≡ true = grind (arith, nat_tests) in
        rw (above, below) (omega arith)

pub masked : (word mask i : ℕ) (t : Bool) → bit_at mask i ≡ bit t → (bit_at (bit_and word mask) i == 1) ≡ (t && (bit_at word i == 1))
masked word mask i true e =
    let small : bit_at word i < 2 = bit_at-lt word i in
    let least : bit_at (bit_and word mask) i ≡ bit_at word i = bit_at_and word mask i ∙ omega arith in
    ap (λ (b : ℕ). b == 1) least
masked word mask i false e =
    let least : bit_at (bit_and word mask) i ≡ 0 = bit_at_and word mask i ∙ omega arith in
    ap (λ (b : ℕ). b == 1) least

pub mask-is : (from to : ℕ) → from < 64 → to < 64 → bit_and (18446744073709551615 * 2 ^ from % 18446744073709551616) (18446744073709551615 / 2 ^ (63 - to)) ≡ bit_and (2 ^ 64 - 2 ^ from) (2 ^ (to + 1) - 1)
mask-is from to f t =
    ap (λ (a : ℕ). bit_and a (18446744073709551615 / 2 ^ (63 - to))) (ones_shl 64 from (omega arith))
    ∙ ap (bit_and (2 ^ 64 - 2 ^ from)) (ones_shr 64 (63 - to) (omega arith) ∙ ap (λ (k : ℕ). 2 ^ k - 1) (omega arith))

-- ---- a word of a row, between two places of the row

low-part : (low base i : ℕ) → nat_le (low - base) i ≡ nat_le low (base + i)
low-part low base i = grind (arith, nat_tests)

high-part : (high base i : ℕ) → i < 64 → base ≤ high → nat_le i (min (high - base) 63) ≡ nat_le (base + i) high
high-part high base i h b = grind (arith, nat_tests)

pub row_bit-at : (row : List ℕ) (k i : ℕ) → i < 64 → (bit_at (slice_index row k) i == 1) ≡ row_bit row (64 * k + i)
row_bit-at row k i h =
    let word : k ≡ (64 * k + i) / 64 = omega arith in
    let place : i ≡ (64 * k + i) % 64 = omega arith in
    ap (λ (n : ℕ). bit_at (slice_index row n) i == 1) word ∙ ap (λ (n : ℕ). bit_at (slice_index row ((64 * k + i) / 64)) n == 1) place

pub window-bit : (row : List ℕ) (k i low high from to mask : ℕ) → i < 64 → 64 * k ≤ high → from ≡ low - 64 * k → to ≡ min (high - 64 * k) 63 → bit_at mask i ≡ bit (nat_le from i && nat_le i to)
    → (bit_at (bit_and (slice_index row k) mask) i == 1) ≡ ((nat_le low (64 * k + i) && nat_le (64 * k + i) high) && row_bit row (64 * k + i))
window-bit row k i low high from to mask h below f t is =
    masked (slice_index row k) mask i (nat_le from i && nat_le i to) is
    ∙ ap (λ (t : Bool). t && (bit_at (slice_index row k) i == 1))
    (ap (λ (n : ℕ). nat_le n i && nat_le i to) f
    ∙ ap (λ (t : Bool). t && nat_le i to) (low-part low (64 * k) i)
    ∙ ap (λ (n : ℕ). nat_le low (64 * k + i) && nat_le i n) t
    ∙ ap (λ (t : Bool). nat_le low (64 * k + i) && t) (high-part high (64 * k) i h below))
    ∙ ap (λ (t : Bool). (nat_le low (64 * k + i) && nat_le (64 * k + i) high) && t) (row_bit-at row k i h)

no-and : (a b c : Bool) → b ≡ false → ((a && b) && c) ≡ false
no-and true true c e = cc
no-and true false c e = refl
no-and false b c e = refl

-- ---- the bits of a row between two places

module _ (row : List ℕ) (low high : ℕ) where
  abbrev pub window : ℕ → Bool
  window x = (nat_le low x && nat_le x high) && row_bit row x

  pub below-window : (x : ℕ) → x < low → window x ≡ false
  below-window x h = let no : nat_le low x ≡ false = grind (arith, nat_tests) in rw no refl

  pub above-window : (x : ℕ) → high < x → window x ≡ false
  above-window x h = let no : nat_le x high ≡ false = grind (arith, nat_tests) in no-and (nat_le low x) (nat_le x high) (row_bit row x) no

  pub in-window : (x : ℕ) → low ≤ x → x ≤ high → window x ≡ row_bit row x
  in-window x h k =
      let above : nat_le low x ≡ true = grind (arith, nat_tests) in
      let below : nat_le x high ≡ true = grind (arith, nat_tests) in
      rw (above, below) refl

  pub none-below : (n : ℕ) → n ≤ low → count_to window n ≡ 0
  none-below n h = count_to-none window n (λ k b. below-window k (omega arith))

  pub word-more : (k word count new : ℕ) → word < 2 ^ 64 → ((i : ℕ) → i < 64 → (bit_at word i == 1) ≡ window (64 * k + i)) → count ≡ count_to window (64 * k) → new ≡ count + count_ones word → new ≡ count_to window (64 * (k + 1))
  word-more k word count new fits bits so_far added =
      let next : 64 * (k + 1) ≡ 64 * k + 64 = omega arith in
      let ones : count_ones word ≡ count_to (λ i. window (64 * k + i)) 64 = ones-count 64 word fits ∙ count_to-same_below (λ i. bit_at word i == 1) (λ i. window (64 * k + i)) 64 bits in
      let sum : count_to window (64 * k + 64) ≡ count_to window (64 * k) + count_to (λ i. window (64 * k + i)) 64 = count_to-add window (64 * k) 64 in
      let whole : count_to window (64 * (k + 1)) ≡ count_to window (64 * k + 64) = ap (count_to window) next in
      omega arith

  pub window-whole : (n : ℕ) → low ≤ high → high < n → count_to window n ≡ count_to (λ i. row_bit row (low + i)) (high + 1 - low)
  window-whole n order past =
      let size : ℕ = high + 1 - low in
      let cut : n ≡ (low + (high + 1 - low)) + (n - (high + 1)) = omega arith in
      let first : count_to window low ≡ 0 = none-below low (omega arith) in
      let last : count_to (λ i. window ((low + size) + i)) (n - (high + 1)) ≡ 0 = count_to-none (λ i. window ((low + size) + i)) (n - (high + 1)) (λ i h. above-window ((low + size) + i) (omega arith)) in
      let inner : count_to (λ i. window (low + i)) size ≡ count_to (λ i. row_bit row (low + i)) size = count_to-same_below (λ i. window (low + i)) (λ i. row_bit row (low + i)) size (λ i h. in-window (low + i) (omega arith) (omega arith)) in
      let outer : count_to window ((low + size) + (n - (high + 1))) ≡ count_to window (low + size) + count_to (λ i. window ((low + size) + i)) (n - (high + 1)) = count_to-add window (low + size) (n - (high + 1)) in
      let middle : count_to window (low + size) ≡ count_to window low + count_to (λ i. window (low + i)) size = count_to-add window low size in
      let whole : count_to window n ≡ count_to window ((low + size) + (n - (high + 1))) = ap (count_to window) cut in
      omega arith

-- ---- the bits of a word, taken off from the lowest on

abbrev pub cleared : ℕ → ℕ → ℕ
cleared n t = bit_and n (bit_not w64 (1 * 2 ^ t % 2 ^ 64))

positive-power : (t : ℕ) → 0 < 2 ^ t
positive-power zero = lit< tt
positive-power (suc t) = let more : 0 < 2 ^ t = positive-power t in let twice : 2 ^ suc t ≡ 2 ^ t * 2 = pow-suc 2 t in omega arith

pub lowest-place : (n : ℕ) → 0 < n → n < 2 ^ 64 → (trailing_zeros w64 n < 64) × (bit_at n (trailing_zeros w64 n) ≡ 1)
lowest-place n some fits = let found = bit_at-trailing_zeros w64 n some fits in (found.0, found.1)

pub cleared-same : (n t : ℕ) → t < 64 → (bit_at (cleared n t) t == 1) ≡ false
cleared-same n t h = ap (λ (b : ℕ). b == 1) (bit_at_clear_same w64 n t h)

pub cleared-other : (n t i : ℕ) → t < 64 → i < 64 → i ≢ t → (bit_at (cleared n t) i == 1) ≡ (bit_at n i == 1)
cleared-other n t i h k ne = ap (λ (b : ℕ). b == 1) (bit_at_clear_other w64 n t h i k ne)

pub cleared-smaller : (n t : ℕ) → t < 64 → n < 2 ^ 64 → bit_at n t ≡ 1 → cleared n t < n
cleared-smaller n t h fits on =
    let power : ℕ = 2 ^ t in
    let below : power < 2 ^ 64 = pow-lt h in
    let same : 1 * power % 2 ^ 64 ≡ power = omega arith in
    let parts : bit_and (2 ^ 64 - 1 - power) n + bit_and power n ≡ n = and-not 64 power n below fits in
    let taken : bit_and power n ≡ power = and_comm power n ∙ and_pow n t ∙ ap (λ (b : ℕ). b * power) on ∙ omega arith in
    let positive : 0 < power = positive-power t in
    let is : cleared n t ≡ bit_and (2 ^ 64 - 1 - power) n = ap (λ (m : ℕ). bit_and n (2 ^ 64 - 1 - m)) same ∙ and_comm n (2 ^ 64 - 1 - power) in
    omega arith

-- ---- the bit of a word at a place of its row

pub word_bit-at : (word base t : ℕ) → t < 64 → word_bit word base (base + t) ≡ (bit_at word t == 1)
word_bit-at word base t h =
    let above : nat_le base (base + t) ≡ true = grind (arith, nat_tests) in
    let below : nat_lt (base + t) (base + 64) ≡ true = grind (arith, nat_tests) in
    let place : (base + t) - base ≡ t = omega arith in
    rw (above, below, place) refl

word_bit-below : (word base x : ℕ) → x < base → word_bit word base x ≡ false
word_bit-below word base x h = let no : nat_le base x ≡ false = grind (arith, nat_tests) in rw no refl

word_bit-above : (word base x : ℕ) → base + 64 ≤ x → word_bit word base x ≡ false
word_bit-above word base x h =
    let no : nat_lt x (base + 64) ≡ false = grind (arith, nat_tests) in
    no-and (nat_le base x) (nat_lt x (base + 64)) (bit_at word (x - base) == 1) no

pub word_bit-zero : (base x : ℕ) → word_bit 0 base x ≡ false
word_bit-zero base x = ap (λ (b : ℕ). (nat_le base x && nat_lt x (base + 64)) && (b == 1)) (bit_at-zero (x - base)) ∙ and-false (nat_le base x && nat_lt x (base + 64))

-- a place is below the word, in it or above it
data Side (base x : ℕ) : Type 0 where
  under : x < base → Side base x
  over : base + 64 ≤ x → Side base x
  within : (t : ℕ) → t < 64 → x ≡ base + t → Side base x

side : (base x : ℕ) → Side base x
side base x = choose (cases_lt x base) (cases_lt x (base + 64))
  where
    choose : (x < base) ⊎ (base ≤ x) → (x < base + 64) ⊎ (base + 64 ≤ x) → Side base x
    choose (inl a) b = under a
    choose (inr a) (inl b) = within (x - base) (omega arith) (omega arith)
    choose (inr a) (inr b) = over b

-- two words with the same bits but for that of one place
word_bit-other : (word new base t x : ℕ) → ((i : ℕ) → i < 64 → i ≢ t → (bit_at new i == 1) ≡ (bit_at word i == 1)) → x ≢ base + t → word_bit new base x ≡ word_bit word base x
word_bit-other word new base t x same ne = choose (side base x)
  where
    choose : Side base x → word_bit new base x ≡ word_bit word base x
    choose (under a) = word_bit-below new base x a ∙ sym (word_bit-below word base x a)
    choose (over a) = word_bit-above new base x a ∙ sym (word_bit-above word base x a)
    choose (within i h e) = rw e (word_bit-at new base i h ∙ same i h (λ f. ne (e ∙ ap (λ (k : ℕ). base + k) f)) ∙ sym (word_bit-at word base i h))

pub bit-counted : (counts : List ℕ) (word new base low t p c want : ℕ) → t < 64 → (bit_at word t == 1) ≡ true → (bit_at new t == 1) ≡ false → ((i : ℕ) → i < 64 → i ≢ t → (bit_at new i == 1) ≡ (bit_at word i == 1))
    → low + p ≡ base + t → p < length counts
    → slice_index counts c + bit (word_bit word base (low + c)) ≡ want → slice_index (slice_set counts p (slice_index counts p + 1)) c + bit (word_bit new base (low + c)) ≡ want
bit-counted counts word new base low t p c want h on off same at inside so_far = choose (cases_eq c p)
  where
    choose : (c ≡ p) ⊎ (c ≢ p) → slice_index (slice_set counts p (slice_index counts p + 1)) c + bit (word_bit new base (low + c)) ≡ want
    choose (inl e) =
        let place : low + c ≡ base + t = ap (λ (k : ℕ). low + k) e ∙ at in
        let before : bit (word_bit word base (low + c)) ≡ 1 = ap (λ (k : ℕ). bit (word_bit word base k)) place ∙ ap bit (word_bit-at word base t h ∙ on) in
        let after : bit (word_bit new base (low + c)) ≡ 0 = ap (λ (k : ℕ). bit (word_bit new base k)) place ∙ ap bit (word_bit-at new base t h ∙ off) in
        let count : slice_index (slice_set counts p (slice_index counts p + 1)) c ≡ slice_index counts c + 1 = rw e (get_or-set_same counts p (slice_index counts p + 1) 0 inside) in
        omega arith
    choose (inr ne) =
        let place : low + c ≢ base + t = λ e. ne (omega arith) in
        let bits : bit (word_bit new base (low + c)) ≡ bit (word_bit word base (low + c)) = ap bit (word_bit-other word new base t (low + c) same place) in
        let count : slice_index (slice_set counts p (slice_index counts p + 1)) c ≡ slice_index counts c = get_or-set_other counts p c (slice_index counts p + 1) 0 ne in
        omega arith

pub record IsInside (word base low size : ℕ) : Type 0 where
  pub at : (i : ℕ) → i < 64 → (bit_at word i == 1) ≡ true → (low ≤ base + i) × (base + i < low + size)

pub record IsPart (part word : ℕ) : Type 0 where
  pub at : (i : ℕ) → i < 64 → (bit_at part i == 1) ≡ true → (bit_at word i == 1) ≡ true

-- the place of the lowest bit of a part of a word
pub record IsLowest (rest base low size t : ℕ) : Type 0 where
  pub small : t < 64
  pub on : bit_at rest t ≡ 1
  pub from : low ≤ base + t
  pub to : base + t < low + size

pub lowest-inside : (word rest base low size : ℕ) → 0 < rest → rest < 2 ^ 64 → IsPart rest word → IsInside word base low size → IsLowest rest base low size (trailing_zeros w64 rest)
lowest-inside word rest base low size some fits part inside =
    let found = lowest-place rest some fits in
    let place = inside.at _ found.0 (part.at _ found.0 (ap (λ (b : ℕ). b == 1) found.1)) in
    record { small = found.0; on = found.1; from = place.0; to = place.1 }

bit-le : (t : Bool) → bit t ≤ 1
bit-le true = lit≤ tt
bit-le false = lit≤ tt

pub bit-room : (rest word base low t p count old : ℕ) → t < 64 → bit_at rest t ≡ 1 → low + p ≡ base + t → count + bit (word_bit rest base (low + p)) ≡ old + bit (word_bit word base (low + p)) → old + 1 < 2 ^ 32 → count + 1 < 2 ^ 32
bit-room rest word base low t p count old h on at so_far room =
    let mine : bit (word_bit rest base (low + p)) ≡ 1 = ap (λ (k : ℕ). bit (word_bit rest base k)) at ∙ ap bit (word_bit-at rest base t h ∙ ap (λ (b : ℕ). b == 1) on) in
    let theirs : bit (word_bit word base (low + p)) ≤ 1 = bit-le (word_bit word base (low + p)) in
    omega arith

pub part-smaller : (rest word t : ℕ) → t < 64 → IsPart rest word → IsPart (cleared rest t) word
part-smaller rest word t h part = record { at = λ i k on. choose i k on (cases_eq i t) }
  where
    choose : (i : ℕ) → i < 64 → (bit_at (cleared rest t) i == 1) ≡ true → (i ≡ t) ⊎ (i ≢ t) → (bit_at word i == 1) ≡ true
    choose i k on (inl e) = absurd (false≢true (sym (cleared-same rest t h) ∙ ap (λ (n : ℕ). bit_at (cleared rest t) n == 1) (sym e) ∙ on))
    choose i k on (inr ne) = part.at i k (sym (cleared-other rest t i h k ne) ∙ on)

-- ---- the words of a row, one after another

-- a count of the places of a row that pass a test, with those of the word that a loop has come to
pub word-counted : (test : ℕ → Bool) (k word x old now new : ℕ) → ((i : ℕ) → i < 64 → (bit_at word i == 1) ≡ test (64 * k + i)) → now ≡ old + bit (nat_lt x (64 * k) && test x) → new ≡ now + bit (word_bit word (64 * k) x)
    → new ≡ old + bit (nat_lt x (64 * (k + 1)) && test x)
word-counted test k word x old now new bits so_far added = choose (side (64 * k) x)
  where
    choose : Side (64 * k) x → new ≡ old + bit (nat_lt x (64 * (k + 1)) && test x)
    choose (under a) =
        let none : bit (word_bit word (64 * k) x) ≡ 0 = ap bit (word_bit-below word (64 * k) x a) in
        let before : nat_lt x (64 * k) ≡ true = grind (arith, nat_tests) in
        let after : nat_lt x (64 * (k + 1)) ≡ true = grind (arith, nat_tests) in
        let same : bit (nat_lt x (64 * (k + 1)) && test x) ≡ bit (nat_lt x (64 * k) && test x) = ap (λ (t : Bool). bit (t && test x)) (after ∙ sym before) in
        omega arith
    choose (over a) =
        let none : bit (word_bit word (64 * k) x) ≡ 0 = ap bit (word_bit-above word (64 * k) x a) in
        let before : nat_lt x (64 * k) ≡ false = grind (arith, nat_tests) in
        let after : nat_lt x (64 * (k + 1)) ≡ false = grind (arith, nat_tests) in
        let same : bit (nat_lt x (64 * (k + 1)) && test x) ≡ bit (nat_lt x (64 * k) && test x) = ap (λ (t : Bool). bit (t && test x)) (after ∙ sym before) in
        omega arith
    choose (within i h e) =
        let before : bit (nat_lt x (64 * k) && test x) ≡ 0 = let no : nat_lt x (64 * k) ≡ false = grind (arith, nat_tests) in ap (λ (t : Bool). bit (t && test x)) no in
        let after : bit (nat_lt x (64 * (k + 1)) && test x) ≡ bit (test x) = let yes : nat_lt x (64 * (k + 1)) ≡ true = grind (arith, nat_tests) in ap (λ (t : Bool). bit (t && test x)) yes in
        let here : bit (word_bit word (64 * k) x) ≡ bit (test x) = ap bit (ap (word_bit word (64 * k)) e ∙ word_bit-at word (64 * k) i h ∙ bits i h ∙ ap test (sym e)) in
        omega arith

none-before : (test : ℕ → Bool) (x first old : ℕ) → first ≤ x → old ≡ old + bit (nat_lt x first && test x)
none-before test x first old h =
    let no : nat_lt x first ≡ false = grind (arith, nat_tests) in
    let none : bit (nat_lt x first && test x) ≡ 0 = ap (λ (t : Bool). bit (t && test x)) no in
    omega arith

pub counted-first : (test : ℕ → Bool) (low x old : ℕ) → low ≤ x → old ≡ old + bit (nat_lt x (64 * (low / 64)) && test x)
counted-first test low x old h = none-before test x (64 * (low / 64)) old (omega arith)
