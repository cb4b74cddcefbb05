-- Counts of bits, number by number and word by word.
use Rattle.std.proofs.Common.{◌≡◌, ℕ, zero, suc, ◌+◌, ◌-◌, ◌*◌, ◌/◌, ◌%◌, ◌^◌, ◌<◌, ◌≤◌, Bool, true, false, ◌&&◌, cond, refl, sym, ap, ◌∙◌, arith, List, get_or, add_assoc}
use Rattle.std.specs.Prelude.{nat_le, ◌==◌, count_ones}
use Rattle.std.proofs.lemmas.Nat.{ones-le, ones_cat, ones_le_self, zero_from_ones}
use Rattle.std.proofs.lemmas.Nat.Bits.{bit_at-suc, bit_at_lowest}
use Rattle.std.proofs.lemmas.Bool.Decides.{nat_tests}
use Rattle.std.proofs.lemmas.Bool.{lt-leb}
use Rattle.amr_tags.specs.Bits.{bit, bit_of}
use Rattle.amr_tags.specs.Parts.{count_from, in_columns, rows_from}

pub rows-append : (f : ℕ → ℕ) (a m n : ℕ) → rows_from f a (m + n) ≡ rows_from f a m + rows_from f (a + m) n
rows-append f a zero n = let e : ℕ = 0 in nothing f a n
  where
    nothing : (f : ℕ → ℕ) (a n : ℕ) → rows_from f a (0 + n) ≡ 0 + rows_from f (a + 0) n
    nothing f a n = let e : 0 + n ≡ n = omega arith in let g : a + 0 ≡ a = omega arith in rw (e, g) (sym (zero-plus _))
      where
        zero-plus : (k : ℕ) → 0 + k ≡ k
        zero-plus k = omega arith
rows-append f a (suc m) n =
    let e : suc m + n ≡ suc (m + n) = omega arith in
    let g : (a + 1) + m ≡ a + suc m = omega arith in
    ap (rows_from f a) e
    ∙ ap (λ t. f a + t) (rows-append f (a + 1) m n)
    ∙ ap (λ t. f a + (rows_from f (a + 1) m + rows_from f t n)) g
    ∙ sym (add_assoc (f a) (rows_from f (a + 1) m) (rows_from f (a + suc m) n))

pub rows-none : (f : ℕ → ℕ) (a n : ℕ) → ((i : ℕ) → a ≤ i → i < a + n → f i ≡ 0) → rows_from f a n ≡ 0
rows-none f a zero h = refl
rows-none f a (suc n) h = omega (arith, h a (omega arith) (omega arith), rows-none f (a + 1) n (λ i p q. h i (omega arith) (omega arith)))

pub rows-same : (f g : ℕ → ℕ) (a n : ℕ) → ((i : ℕ) → a ≤ i → i < a + n → f i ≡ g i) → rows_from f a n ≡ rows_from g a n
rows-same f g a zero h = refl
rows-same f g a (suc n) h = omega (arith, h a (omega arith) (omega arith), rows-same f g (a + 1) n (λ i p q. h i (omega arith) (omega arith)))

-- ---- the bits of a word

lowest : (n : ℕ) → cond (bit n 0) 1 0 ≡ n % 2
lowest n = ap (λ t. cond (t == 1) 1 0) (bit_at_lowest n) ∙ two (n % 2) (omega arith)
  where
    two : (k : ℕ) → k < 2 → cond (k == 1) 1 0 ≡ k
    two k h = grind (arith, nat_tests)

ones-small : (k : ℕ) → k < 2 → count_ones k ≡ k
ones-small k h = step (count_ones k) (ones_le_self k) (zero_from_ones k)
  where
    step : (n : ℕ) → n ≤ k → (n ≡ 0 → k ≡ 0) → n ≡ k
    step zero le none = sym (none refl)
    step (suc n) le none = omega arith

ones-halved : (n : ℕ) → count_ones n ≡ n % 2 + count_ones (n / 2)
ones-halved n =
    let e : n / 2 * 2 ^ 1 + n % 2 ≡ n = omega arith in
    let low : n % 2 < 2 ^ 1 = omega arith in
    ap count_ones (sym e) ∙ ones_cat 1 (n / 2) (n % 2) low ∙ ap (λ t. count_ones (n / 2) + t) (ones-small (n % 2) (omega arith)) ∙ omega arith

pub ones-count : (p : ℕ → Bool) (k n a : ℕ) → n < 2 ^ k → ((b : ℕ) → b < k → bit n b ≡ p (a + b)) → count_ones n ≡ count_from p a k
ones-count p zero n a h same = let e : count_ones n ≤ 0 = ones-le 0 n h in omega arith
ones-count p (suc k) n a h same =
    let first : bit n 0 ≡ p a = same 0 (omega arith) ∙ ap p (omega arith) in
    let rest : count_ones (n / 2) ≡ count_from p (a + 1) k = ones-count p k (n / 2) (a + 1) (omega arith) (λ b below. ap (λ t. t == 1) (sym (bit_at-suc n b)) ∙ same (suc b) (omega arith) ∙ ap p (omega arith)) in
    ones-halved n ∙ ap (λ t. t + count_ones (n / 2)) (sym (lowest n) ∙ ap (λ t. cond t 1 0) first) ∙ ap (λ t. cond (p a) 1 0 + t) rest

-- ---- a word of a row

before_columns : (p : ℕ) (words : List ℕ) (j low high i : ℕ) → i < low → ◌≡◌ {A = ℕ} (cond (in_columns p words j low high i) 1 0) 0
before_columns p words j low high i h =
    let test : nat_le low i ≡ false = lt-leb low i h in
    rw test (none (bit_of p words i j))
  where
    none : (t : Bool) → ◌≡◌ {A = ℕ} (cond (t && false) 1 0) 0
    none true = refl
    none false = refl

pub none_before : (p : ℕ) (words : List ℕ) (j low high n : ℕ) → n ≤ low → 0 ≡ count_from (in_columns p words j low high) 0 n
none_before p words j low high n h = sym (rows-none (λ i. cond (in_columns p words j low high i) 1 0) 0 n (λ i _ below. before_columns p words j low high i (omega arith)))

word_columns : (p : ℕ) (words : List ℕ) (j w low high n : ℕ) → n < 2 ^ 64 → ((b : ℕ) → b < 64 → bit n b ≡ (bit (get_or words (j * p + w) 0) b && (nat_le low (w * 64 + b) && nat_le (w * 64 + b) high))) → count_ones n ≡ count_from (in_columns p words j low high) (64 * w) 64
word_columns p words j w low high n fits same = ones-count (in_columns p words j low high) 64 n (64 * w) fits (λ b below. same b below ∙ here b below)
  where
    here : (b : ℕ) → b < 64 → (bit (get_or words (j * p + w) 0) b && (nat_le low (w * 64 + b) && nat_le (w * 64 + b) high)) ≡ in_columns p words j low high (64 * w + b)
    here b below =
        let q : w ≡ (64 * w + b) / 64 = omega arith in
        let r : b ≡ (64 * w + b) % 64 = omega arith in
        let s : w * 64 + b ≡ 64 * w + b = omega arith in
        ap (λ t. bit (get_or words (j * p + t) 0) b && (nat_le low (w * 64 + b) && nat_le (w * 64 + b) high)) q
        ∙ ap (λ t. bit (get_or words (j * p + (64 * w + b) / 64) 0) t && (nat_le low (w * 64 + b) && nat_le (w * 64 + b) high)) r
        ∙ ap (λ t. bit_of p words (64 * w + b) j && (nat_le low t && nat_le t high)) s

pub one_word : (p : ℕ) (words : List ℕ) (j w low high n count more : ℕ) → n < 2 ^ 64 → ((b : ℕ) → b < 64 → bit n b ≡ (bit (get_or words (j * p + w) 0) b && (nat_le low (w * 64 + b) && nat_le (w * 64 + b) high))) → count ≡ count_from (in_columns p words j low high) 0 (64 * w) → more ≡ count_ones n → count + more ≡ count_from (in_columns p words j low high) 0 (64 * (w + 1))
one_word p words j w low high n count more fits same e f =
    let length_is : 64 * w + 64 ≡ 64 * (w + 1) = omega arith in
    let start : 0 + 64 * w ≡ 64 * w = omega arith in
    ap (λ t. t + more) e
    ∙ ap (λ t. count_from (in_columns p words j low high) 0 (64 * w) + t) (f ∙ word_columns p words j w low high n fits same)
    ∙ ap (λ t. count_from (in_columns p words j low high) 0 (64 * w) + count_from (in_columns p words j low high) t 64) (sym start)
    ∙ sym (rows-append (λ i. cond (in_columns p words j low high i) 1 0) 0 (64 * w) 64)
    ∙ ap (λ t. count_from (in_columns p words j low high) 0 t) length_is

pub at_most_64 : (n : ℕ) → n < 2 ^ 64 → count_ones n ≤ 64
at_most_64 n h = ones-le 64 n h

pub row_step : (f : ℕ → ℕ) (first j count more : ℕ) → first ≤ j → count ≡ rows_from f first (j - first) → more ≡ f j → count + more ≡ rows_from f first (j + 1 - first)
row_step f first j count more order e g =
    let last : first + (j - first) ≡ j = omega arith in
    let length_is : j - first + 1 ≡ j + 1 - first = omega arith in
    let one : more ≡ rows_from f (first + (j - first)) 1 = g ∙ ap f (sym last) ∙ alone (f (first + (j - first))) in
    ap (λ t. t + more) e ∙ ap (λ t. rows_from f first (j - first) + t) one ∙ sym (rows-append f first (j - first) 1) ∙ ap (rows_from f first) length_is
  where
    alone : (k : ℕ) → k ≡ k + 0
    alone k = omega arith
