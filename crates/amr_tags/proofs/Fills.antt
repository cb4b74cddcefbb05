-- Bits of a part of the rows that are set, word by word and row by row.
use Rattle.std.proofs.Common.{◌≡◌, ℕ, ◌+◌, ◌*◌, ◌/◌, ◌%◌, ◌<◌, ◌≤◌, Bool, true, false, ◌&&◌, ◌||◌, refl, sym, ap, ◌∙◌, arith, List, length, set, get_or}
use Rattle.std.specs.Prelude.{◌==◌, bit_or, nat_le, nat_lt}
use Rattle.std.proofs.Math.Bool.{or-false, and-false, and-true, and_comm}
use Rattle.std.proofs.lemmas.Bool.Decides.{nat_tests}
use Rattle.std.proofs.lemmas.List.{get_or-set_same, get_or-set_other}
use Rattle.std.proofs.lemmas.Nat.{same_from_place}
use Rattle.std.proofs.lemmas.Nat.Bits.{bit_at_ones}
use Rattle.std.proofs.lemmas.Bool.{eq-eqb, eqb-true}
use Rattle.amr_box.specs.declared.Cell.{Cell}
use Rattle.amr_box.specs.Cells.{Extent, height, holds, width, within}
use Rattle.amr_tags.specs.Bits.{AreRows, bit, bit_of, words_for}
use Rattle.amr_tags.specs.Parts.{IsWindow, in_rows, with_part}
use Rattle.amr_tags.specs.Stored.{IsIn}
use Rattle.amr_tags.specs.TagSets.{column_in, row_in}
use Rattle.amr_tags.proofs.CellCounts.{column_there, in_range}
use Rattle.amr_tags.proofs.Places.{apart, column_within, is_in}
use Rattle.amr_tags.proofs.Shifts.{or-bit}
use Rattle.amr_tags.proofs.Grows.{offset-is}

-- the columns from `from` to `to`
abbrev pub in_span : ℕ → ℕ → ℕ → Bool
in_span from to i = nat_le from i && nat_le i to

-- one word's bits more
or-word : (p : ℕ) (words : List ℕ) (k c mask i r : ℕ) → k < p → i / 64 < p → c * p + k < length words → bit_of p (set words (c * p + k) (bit_or (get_or words (c * p + k) 0) mask)) i r ≡ (bit_of p words i r || ((r == c) && ((i / 64 == k) && bit mask (i % 64))))
or-word p words k c mask i r hk hi within = step ((r * p + i / 64) == (c * p + k)) refl
  where
    written : ℕ
    written = bit_or (get_or words (c * p + k) 0) mask

    both_true : (s t u : Bool) → s ≡ true → t ≡ true → u ≡ (s && (t && u))
    both_true s t u e f = rw (e, f)

    none : (s t u : Bool) → (s ≡ true → t ≡ true → ⊥) → (s && (t && u)) ≡ false
    none true true u n = absurd (n refl refl)
    none true false u n = refl
    none false t u n = refl

    joined : r ≡ c → i / 64 ≡ k → r * p + i / 64 ≡ c * p + k
    joined f g = rw (f, g)

    step : (t : Bool) → ((r * p + i / 64) == (c * p + k)) ≡ t → bit_of p (set words (c * p + k) written) i r ≡ (bit_of p words i r || ((r == c) && ((i / 64 == k) && bit mask (i % 64))))
    step true e =
        let place : r * p + i / 64 ≡ c * p + k = eqb-true (r * p + i / 64) (c * p + k) e in
        let both = same_from_place r (i / 64) c k p hi hk place in
        ap (λ t. bit (get_or (set words (c * p + k) written) t 0) (i % 64)) place
        ∙ ap (λ t. bit t (i % 64)) (get_or-set_same words (c * p + k) written 0 within)
        ∙ or-bit (get_or words (c * p + k) 0) mask (i % 64)
        ∙ ap (λ t. bit (get_or words t 0) (i % 64) || bit mask (i % 64)) (sym place)
        ∙ ap (λ t. bit_of p words i r || t) (both_true (r == c) (i / 64 == k) (bit mask (i % 64)) (eq-eqb r c both.0) (eq-eqb (i / 64) k both.1))
    step false e =
        ap (λ t. bit t (i % 64)) (get_or-set_other words (c * p + k) (r * p + i / 64) written 0 (apart (r * p + i / 64) (c * p + k) e))
        ∙ sym (or-false (bit_of p words i r))
        ∙ ap (λ t. bit_of p words i r || t) (sym (none (r == c) (i / 64 == k) (bit mask (i % 64)) (λ f g. apart (r * p + i / 64) (c * p + k) e (joined (eqb-true r c f) (eqb-true (i / 64) k g)))))

-- ---- a row

-- the mask of a word has the bits of the columns
mask_is : (w from to mask i : ℕ) → ((b : ℕ) → b < 64 → bit mask b ≡ (bit 18446744073709551615 b && in_span from to (w * 64 + b))) → ((i / 64 == w) && bit mask (i % 64)) ≡ ((i / 64 == w) && in_span from to i)
mask_is w from to mask i m = step (i / 64 == w) refl
  where
    step : (t : Bool) → (i / 64 == w) ≡ t → (t && bit mask (i % 64)) ≡ (t && in_span from to i)
    step true e =
        let word : i / 64 ≡ w = eqb-true (i / 64) w e in
        let low : i % 64 < 64 = omega arith in
        let whole : w * 64 + i % 64 ≡ i = omega arith in
        let all : bit 18446744073709551615 (i % 64) ≡ true = ap (λ t. t == 1) (bit_at_ones 64 (i % 64) low) in
        m (i % 64) low ∙ ap (λ t. t && in_span from to (w * 64 + i % 64)) all ∙ ap (in_span from to) whole
    step false e = refl

-- as far as a pass over the words of row j has come
abbrev pub up_to_word : ℕ → ℕ → ℕ → ℕ → ℕ → ℕ → Bool
up_to_word j from to w i r = (r == j) && (in_span from to i && nat_lt (i / 64) w)

pub first-word : (a : Bool) (j from to i r : ℕ) → a ≡ (a || up_to_word j from to (from / 64) i r)
first-word a j from to i r = sym (ap (λ t. a || ((r == j) && t)) (none (nat_le from i) refl) ∙ ap (λ t. a || t) (and-false (r == j)) ∙ or-false a)
  where
    not_below : nat_le from i ≡ true → nat_lt (i / 64) (from / 64) ≡ false
    not_below h = grind (arith, nat_tests)

    none : (t : Bool) → nat_le from i ≡ t → ((nat_le from i && nat_le i to) && nat_lt (i / 64) (from / 64)) ≡ false
    none true e = ap (λ t. (nat_le from i && nat_le i to) && t) (not_below e) ∙ and-false (nat_le from i && nat_le i to)
    none false e = ap (λ t. (t && nat_le i to) && nat_lt (i / 64) (from / 64)) e

pub next-word : (p : ℕ) (words : List ℕ) (j w from to mask i r : ℕ) (a : Bool) → w < p → i / 64 < p → j * p + w < length words → ((b : ℕ) → b < 64 → bit mask b ≡ (bit 18446744073709551615 b && in_span from to (w * 64 + b))) → bit_of p words i r ≡ (a || up_to_word j from to w i r) → bit_of p (set words (j * p + w) (bit_or (get_or words (j * p + w) 0) mask)) i r ≡ (a || up_to_word j from to (w + 1) i r)
next-word p words j w from to mask i r a hw hi within m h =
    or-word p words w j mask i r hw hi within
    ∙ ap (λ t. t || ((r == j) && ((i / 64 == w) && bit mask (i % 64)))) h
    ∙ ap (λ t. (a || up_to_word j from to w i r) || ((r == j) && t)) (mask_is w from to mask i m)
    ∙ fold a (r == j) (in_span from to i) (nat_lt (i / 64) w) (i / 64 == w)
    ∙ ap (λ t. a || ((r == j) && (in_span from to i && t))) (sym (more (i / 64) w))
  where
    more : (k n : ℕ) → nat_lt k (n + 1) ≡ (nat_lt k n || (k == n))
    more k n = grind (arith, nat_tests)

    fold : (a r c l e : Bool) → ((a || (r && (c && l))) || (r && (e && c))) ≡ (a || (r && (c && (l || e))))
    fold true r c l e = refl
    fold false false c l e = refl
    fold false true true true e = refl
    fold false true true false true = refl
    fold false true true false false = refl
    fold false true false l true = refl
    fold false true false l false = refl

pub last-word : (a : Bool) (j from to i r w : ℕ) → w ≡ to / 64 + 1 → (a || up_to_word j from to w i r) ≡ (a || ((r == j) && in_span from to i))
last-word a j from to i r w e = ap (λ n. a || up_to_word j from to n i r) e ∙ ap (λ t. a || ((r == j) && t)) (all (nat_le i to) refl)
  where
    below : nat_le i to ≡ true → nat_lt (i / 64) (to / 64 + 1) ≡ true
    below h = grind (arith, nat_tests)

    never : (s t : Bool) → ((s && false) && t) ≡ (s && false)
    never true t = refl
    never false t = refl

    all : (t : Bool) → nat_le i to ≡ t → ((nat_le from i && nat_le i to) && nat_lt (i / 64) (to / 64 + 1)) ≡ (nat_le from i && nat_le i to)
    all true e = ap (λ t. in_span from to i && t) (below e) ∙ and-true (in_span from to i)
    all false e = ap (λ t. (nat_le from i && t) && nat_lt (i / 64) (to / 64 + 1)) e ∙ never (nat_le from i) (nat_lt (i / 64) (to / 64 + 1)) ∙ ap (λ t. nat_le from i && t) (sym e)

-- ---- rows

-- as far as a pass over the rows from `first` on has come
abbrev pub up_to_row : ℕ → ℕ → ℕ → ℕ → ℕ → ℕ → Bool
up_to_row from to first j i r = (nat_le first r && nat_lt r j) && in_span from to i

pub first-row : (a : Bool) (from to first i r : ℕ) → a ≡ (a || up_to_row from to first first i r)
first-row a from to first i r = sym (ap (λ t. a || (t && in_span from to i)) (none first r) ∙ or-false a)
  where
    none : (n r : ℕ) → (nat_le n r && nat_lt r n) ≡ false
    none n r = grind (arith, nat_tests)

pub next-row : (a now : Bool) (from to first j i r : ℕ) → first ≤ j → now ≡ (a || up_to_row from to first j i r) → (now || ((r == j) && in_span from to i)) ≡ (a || up_to_row from to first (j + 1) i r)
next-row a now from to first j i r h e =
    ap (λ t. t || ((r == j) && in_span from to i)) e
    ∙ fold a (nat_le first r && nat_lt r j) (r == j) (in_span from to i)
    ∙ ap (λ t. a || (t && in_span from to i)) (sym (more first r j h))
  where
    more : (n r j : ℕ) → n ≤ j → (nat_le n r && nat_lt r (j + 1)) ≡ ((nat_le n r && nat_lt r j) || (r == j))
    more n r j h = grind (arith, nat_tests)

    fold : (a s e c : Bool) → ((a || (s && c)) || (e && c)) ≡ (a || ((s || e) && c))
    fold true s e c = refl
    fold false true true true = refl
    fold false true true false = refl
    fold false true false true = refl
    fold false true false false = refl
    fold false false e c = refl

pub last-row : (a : Bool) (from to first last i r j : ℕ) → j ≡ last + 1 → (a || up_to_row from to first j i r) ≡ (a || ((nat_le first r && nat_le r last) && in_span from to i))
last-row a from to first last i r j e = ap (λ n. a || up_to_row from to first n i r) e ∙ ap (λ t. a || ((nat_le first r && t) && in_span from to i)) (same r last)
  where
    same : (r n : ℕ) → nat_lt r (n + 1) ≡ nat_le r n
    same r n = grind (arith, nat_tests)

-- ---- a part of the box

pub rows_after_part : (b : Extent) (old words : List ℕ) (west south east north : ℕ) → AreRows (width b) (height b) old → east < width b → length words ≡ length old → ((i r : ℕ) → i / 64 < words_for (width b) → bit_of (words_for (width b)) words i r ≡ with_part (words_for (width b)) old west east south north i r) → AreRows (width b) (height b) words
rows_after_part b old words west south east north rows inside count bits = record {
  count = count ∙ rows.count;
  unused = λ i j beyond below there.
      bits i j (word_below i (words_for (width b)) below)
      ∙ ap (λ t. t || ((nat_le south j && nat_le j north) && in_span west east i)) (rows.unused i j beyond below there)
      ∙ ap (λ t. (nat_le south j && nat_le j north) && (nat_le west i && t)) (past i east (width b) inside beyond)
      ∙ none (nat_le south j && nat_le j north) (nat_le west i);
}
  where
    word_below : (i p : ℕ) → i < 64 * p → i / 64 < p
    word_below i p h = omega arith

    past : (i e w : ℕ) → e < w → w ≤ i → nat_le i e ≡ false
    past i e w h g = grind (arith, nat_tests)

    none : (s t : Bool) → (s && (t && false)) ≡ false
    none true true = refl
    none true false = refl
    none false t = refl

pub cells_after_part : (b part : Extent) (old words : List ℕ) (west south east north : ℕ) → IsWindow b part west south east north → ((i r : ℕ) → i / 64 < words_for (width b) → bit_of (words_for (width b)) words i r ≡ with_part (words_for (width b)) old west east south north i r) → (c : Cell) → in_rows b words c ≡ (in_rows b old c || (holds b c && holds part c))
cells_after_part b part old words west south east north k bits c = step (holds b c) refl
  where
    in_part : IsIn b c → ((nat_le south (row_in b c) && nat_le (row_in b c) north) && in_span west east (column_in b c)) ≡ holds part c
    in_part there =
        and_comm (nat_le south (row_in b c) && nat_le (row_in b c) north) (in_span west east (column_in b c))
        ∙ ap (λ t. t && (nat_le south (row_in b c) && nat_le (row_in b c) north)) (sym (in_range b.lo.x part.lo.x part.hi.x west east (column_in b c) k.west_is k.east_is) ∙ ap (within part.lo.x part.hi.x) (offset-is b.lo.x c.x there.west))
        ∙ ap (λ t. within part.lo.x part.hi.x c.x && t) (sym (in_range b.lo.y part.lo.y part.hi.y south north (row_in b c) k.south_is k.north_is) ∙ ap (within part.lo.y part.hi.y) (offset-is b.lo.y c.y there.south))

    step : (t : Bool) → holds b c ≡ t → (t && bit_of (words_for (width b)) words (column_in b c) (row_in b c)) ≡ ((t && bit_of (words_for (width b)) old (column_in b c) (row_in b c)) || (t && holds part c))
    step true e =
        let there = is_in b c e in
        bits (column_in b c) (row_in b c) (column_there (column_in b c) (width b) (column_within b c there))
        ∙ ap (λ t. bit_of (words_for (width b)) old (column_in b c) (row_in b c) || t) (in_part there)
    step false e = refl
