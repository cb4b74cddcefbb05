-- Where the bit of a cell stands.
use Rattle.std.proofs.Common.{◌≡◌, ℕ, ◌+◌, ◌*◌, ◌/◌, ◌%◌, ◌^◌, ◌<◌, ◌≤◌, ◌≢◌, Bool, true, false, ◌&&◌, ◌||◌, ℤ, pos, ◌+ℤ◌, ◌-ℤ◌, ◌≤ℤ◌, refl, sym, ap, ◌∙◌, subst, arith, List, length, set, get_or, length-set}
use Rattle.std.specs.Prelude.{nat_lt, ◌==◌, bit_or, replicate, unsigned_abs}
use Rattle.std.specs.Ordering.{int_eq}
use Rattle.std.specs.Int.{w64}
use Rattle.std.proofs.lemmas.List.{get_or_past, get_or-replicate, get_or-set_same, get_or-set_other, length-replicate}
use Rattle.std.proofs.Math.Bool.{or-false, or-true}
use Rattle.std.proofs.lemmas.Bool.{and_parts, eq-eqb, eqb-true, ltb-false, ltb-true, ne_eqb}
use Rattle.std.proofs.lemmas.Bool.Decides.{nat_tests}
use Rattle.std.proofs.lemmas.Int.{ints}
use Rattle.std.proofs.lemmas.Nat.{mul-add-lt, same_from_place}
use Rattle.std.proofs.lemmas.Nat.Bits.{bit_at-zero, bit_at_set_same, bit_at_set_other}
use Rattle.amr_box.specs.declared.Cell.{Cell}
use Rattle.amr_box.specs.Cells.{Extent, at_least_zero, height, holds, is_same_cell, width, within}
use Rattle.amr_box.proofs.Tests.{and_never}
use Rattle.amr_box.proofs.CellEquality.{same_number}
use Rattle.amr_box.proofs.Numbers.{is_between}
use Rattle.amr_tags.specs.Bits.{AreRows, bit, bit_of, words_for}
use Rattle.amr_tags.specs.Stored.{IsIn}
use Rattle.amr_tags.specs.TagSets.{column_in, row_in}

pub low_in : (lo hi z : ℤ) → within lo hi z ≡ true → lo ≤ℤ z
low_in lo hi z h = grind (arith, ints)

pub high_in : (lo hi z : ℤ) → within lo hi z ≡ true → z ≤ℤ hi
high_in lo hi z h = grind (arith, ints)

pub is_in : (b : Extent) (c : Cell) → holds b c ≡ true → IsIn b c
is_in b c h =
    let k = and_parts (within b.lo.x b.hi.x c.x) (within b.lo.y b.hi.y c.y) h in
    record {
      west = low_in b.lo.x b.hi.x c.x k.0;
      east = high_in b.lo.x b.hi.x c.x k.0;
      south = low_in b.lo.y b.hi.y c.y k.1;
      north = high_in b.lo.y b.hi.y c.y k.1;
    }

-- and back
pub in_holds : (b : Extent) (c : Cell) → b.lo.x ≤ℤ c.x → c.x ≤ℤ b.hi.x → b.lo.y ≤ℤ c.y → c.y ≤ℤ b.hi.y → holds b c ≡ true
in_holds b c west east south north = ap (λ t. t && within b.lo.y b.hi.y c.y) (is_between b.lo.x b.hi.x c.x west east) ∙ is_between b.lo.y b.hi.y c.y south north

-- the word of a place is one of the rows' words
pub place_within : (i j width height : ℕ) → i < width → j < height → j * words_for width + i / 64 < height * words_for width
place_within i j width height h k = let w : i / 64 < words_for width = omega arith in let m = mul-add-lt j (words_for width) (i / 64) height k w in omega (arith, m)

zeros-at : (n k : ℕ) → get_or {A = ℕ} (replicate n 0) k 0 ≡ 0
zeros-at n k = step (nat_lt k n) refl
  where
    step : (t : Bool) → nat_lt k n ≡ t → get_or {A = ℕ} (replicate n 0) k 0 ≡ 0
    step true e = get_or-replicate {A = ℕ} n k 0 0 (ltb-true k n e)
    step false e = let h : length {A = ℕ} (replicate n 0) ≤ k = omega (arith, length-replicate {A = ℕ} n 0, ltb-false k n e) in get_or_past {X = ℕ} (replicate n 0) k 0 h

pub empty-bit_of : (p n i j : ℕ) → bit_of p (replicate n 0) i j ≡ false
empty-bit_of p n i j = ap (λ t. bit t (i % 64)) (zeros-at n (j * p + i / 64)) ∙ ap (λ t. t == 1) (bit_at-zero (i % 64))

-- ---- one bit more

pub apart : (a b : ℕ) → (a == b) ≡ false → a ≢ b
apart a b h = grind (arith, nat_tests)

-- the bits of a word with one more
pub set-bit : (w k i : ℕ) → k < 64 → bit (bit_or w (1 * 2 ^ k % 2 ^ 64)) i ≡ (bit w i || (i == k))
set-bit w k i h = step (i == k) refl
  where
    step : (t : Bool) → (i == k) ≡ t → bit (bit_or w (1 * 2 ^ k % 2 ^ 64)) i ≡ (bit w i || (i == k))
    step true e =
        ap (λ t. bit (bit_or w (1 * 2 ^ k % 2 ^ 64)) t) (eqb-true i k e)
        ∙ ap (λ t. t == 1) (bit_at_set_same w64 w k h)
        ∙ sym (or-true (bit w i))
        ∙ ap (λ t. bit w i || t) (sym e)
    step false e =
        ap (λ t. t == 1) (bit_at_set_other w64 w k h i (apart i k e))
        ∙ sym (or-false (bit w i))
        ∙ ap (λ t. bit w i || t) (sym e)

-- the word of the bit that is set, and the others
pub set-bit_of : (p : ℕ) (words : List ℕ) (k c i j : ℕ) → k / 64 < p → i / 64 < p → c * p + k / 64 < length words → bit_of p (set words (c * p + k / 64) (bit_or (get_or words (c * p + k / 64) 0) (1 * 2 ^ (k % 64) % 2 ^ 64))) i j ≡ (bit_of p words i j || ((i == k) && (j == c)))
set-bit_of p words k c i j hk hi within = step ((j * p + i / 64) == (c * p + k / 64)) refl
  where
    written : ℕ
    written = bit_or (get_or words (c * p + k / 64) 0) (1 * 2 ^ (k % 64) % 2 ^ 64)

    low : k % 64 < 64
    low = omega arith

    same_column : (i k : ℕ) → i / 64 ≡ k / 64 → (i % 64 == k % 64) ≡ (i == k)
    same_column i k e = grind (arith, nat_tests)

    with_row : (s t : Bool) → t ≡ true → s ≡ (s && t)
    with_row true t e = sym e
    with_row false t e = refl

    joined : i ≡ k → j ≡ c → j * p + i / 64 ≡ c * p + k / 64
    joined f g = rw (f, g)

    step : (t : Bool) → ((j * p + i / 64) == (c * p + k / 64)) ≡ t → bit_of p (set words (c * p + k / 64) written) i j ≡ (bit_of p words i j || ((i == k) && (j == c)))
    step true e =
        let place : j * p + i / 64 ≡ c * p + k / 64 = eqb-true (j * p + i / 64) (c * p + k / 64) e in
        let both = same_from_place j (i / 64) c (k / 64) p hi hk place in
        ap (λ t. bit (get_or (set words (c * p + k / 64) written) t 0) (i % 64)) place
        ∙ ap (λ t. bit t (i % 64)) (get_or-set_same words (c * p + k / 64) written 0 within)
        ∙ set-bit (get_or words (c * p + k / 64) 0) (k % 64) (i % 64) low
        ∙ ap (λ t. bit (get_or words t 0) (i % 64) || (i % 64 == k % 64)) (sym place)
        ∙ ap (λ t. bit_of p words i j || t) (same_column i k both.1 ∙ with_row (i == k) (j == c) (eq-eqb j c both.0))
    step false e =
        ap (λ t. bit t (i % 64)) (get_or-set_other words (c * p + k / 64) (j * p + i / 64) written 0 (apart (j * p + i / 64) (c * p + k / 64) e))
        ∙ sym (or-false (bit_of p words i j))
        ∙ ap (λ t. bit_of p words i j || t) (sym (and_never (i == k) (j == c) (λ f g. apart (j * p + i / 64) (c * p + k / 64) e (joined (eqb-true i k f) (eqb-true j c g)))))

-- ---- a cell of the box, by its column and row

pub column_within : (b : Extent) (c : Cell) → IsIn b c → column_in b c < width b
column_within b c k = one b.lo.x b.hi.x c.x k.west k.east
  where
    one : (lo hi z : ℤ) → lo ≤ℤ z → z ≤ℤ hi → unsigned_abs (z -ℤ lo) < at_least_zero (hi +ℤ pos 1 -ℤ lo)
    one lo hi z h k = grind (arith, ints)

pub row_within : (b : Extent) (c : Cell) → IsIn b c → row_in b c < height b
row_within b c k = one b.lo.y b.hi.y c.y k.south k.north
  where
    one : (lo hi z : ℤ) → lo ≤ℤ z → z ≤ℤ hi → unsigned_abs (z -ℤ lo) < at_least_zero (hi +ℤ pos 1 -ℤ lo)
    one lo hi z h k = grind (arith, ints)

same_place : (lo z w : ℤ) → lo ≤ℤ z → lo ≤ℤ w → (unsigned_abs (w -ℤ lo) == unsigned_abs (z -ℤ lo)) ≡ int_eq z w
same_place lo z w h k = grind (arith, ints, nat_tests)

same_holds : (b : Extent) (c d : Cell) → is_same_cell c d ≡ true → holds b d ≡ holds b c
same_holds b c d e =
    let k = and_parts (int_eq c.x d.x) (int_eq c.y d.y) e in
    ap (λ (t : ℤ). within b.lo.x b.hi.x t && within b.lo.y b.hi.y d.y) (sym (same_number c.x d.x k.0)) ∙ ap (λ (t : ℤ). within b.lo.x b.hi.x c.x && within b.lo.y b.hi.y t) (sym (same_number c.y d.y k.1))

pub after_set : (b : Extent) (words : List ℕ) (c d : Cell) → AreRows (width b) (height b) words → holds b c ≡ true → (holds b d && bit_of (words_for (width b)) (set words (row_in b c * words_for (width b) + column_in b c / 64) (bit_or (get_or words (row_in b c * words_for (width b) + column_in b c / 64) 0) (1 * 2 ^ (column_in b c % 64) % 2 ^ 64))) (column_in b d) (row_in b d)) ≡ ((holds b d && bit_of (words_for (width b)) words (column_in b d) (row_in b d)) || is_same_cell c d)
after_set b words c d rows h = step (holds b d) refl
  where
    inside : IsIn b c
    inside = is_in b c h

    within : row_in b c * words_for (width b) + column_in b c / 64 < length words
    within = subst (λ (n : ℕ). row_in b c * words_for (width b) + column_in b c / 64 < n) (sym rows.count) (place_within (column_in b c) (row_in b c) (width b) (height b) (column_within b c inside) (row_within b c inside))

    word_in : (i w : ℕ) → i < w → i / 64 < words_for w
    word_in i w h = omega arith

    not_same : is_same_cell c d ≡ true → holds b d ≡ true
    not_same e = same_holds b c d e ∙ h

    step : (t : Bool) → holds b d ≡ t → (holds b d && bit_of (words_for (width b)) (set words (row_in b c * words_for (width b) + column_in b c / 64) (bit_or (get_or words (row_in b c * words_for (width b) + column_in b c / 64) 0) (1 * 2 ^ (column_in b c % 64) % 2 ^ 64))) (column_in b d) (row_in b d)) ≡ ((holds b d && bit_of (words_for (width b)) words (column_in b d) (row_in b d)) || is_same_cell c d)
    step true e =
        let there : IsIn b d = is_in b d e in
        rw e
        (set-bit_of (words_for (width b)) words (column_in b c) (row_in b c) (column_in b d) (row_in b d) (word_in (column_in b c) (width b) (column_within b c inside)) (word_in (column_in b d) (width b) (column_within b d there)) within
        ∙ ap (λ t. bit_of (words_for (width b)) words (column_in b d) (row_in b d) || (t && (row_in b d == row_in b c))) (same_place b.lo.x c.x d.x inside.west there.west)
        ∙ ap (λ t. bit_of (words_for (width b)) words (column_in b d) (row_in b d) || (int_eq c.x d.x && t)) (same_place b.lo.y c.y d.y inside.south there.south))
    step false e = outside (is_same_cell c d) refl
      where
        outside : (t : Bool) → is_same_cell c d ≡ t → (holds b d && bit_of (words_for (width b)) (set words (row_in b c * words_for (width b) + column_in b c / 64) (bit_or (get_or words (row_in b c * words_for (width b) + column_in b c / 64) 0) (1 * 2 ^ (column_in b c % 64) % 2 ^ 64))) (column_in b d) (row_in b d)) ≡ ((holds b d && bit_of (words_for (width b)) words (column_in b d) (row_in b d)) || is_same_cell c d)
        outside true f = absurd (clash (sym (not_same f) ∙ e))
          where
            clash : true ≡ false → ⊥
            clash e = cc
        outside false f = rw (e, f)

pub rows_after_set : (b : Extent) (words : List ℕ) (c : Cell) → AreRows (width b) (height b) words → holds b c ≡ true → AreRows (width b) (height b) (set words (row_in b c * words_for (width b) + column_in b c / 64) (bit_or (get_or words (row_in b c * words_for (width b) + column_in b c / 64) 0) (1 * 2 ^ (column_in b c % 64) % 2 ^ 64)))
rows_after_set b words c rows h = record {
  count = length-set words _ _ ∙ rows.count;
  unused = λ i j beyond below there.
      set-bit_of (words_for (width b)) words (column_in b c) (row_in b c) i j (word_in (column_in b c) (width b) (column_within b c inside)) (word_below i (words_for (width b)) below) within
      ∙ ap (λ t. t || ((i == column_in b c) && (j == row_in b c))) (rows.unused i j beyond below there)
      ∙ ap (λ t. t && (j == row_in b c)) (ne_eqb i (column_in b c) (λ e. far i (column_in b c) (width b) beyond (column_within b c inside) e));
}
  where
    inside : IsIn b c
    inside = is_in b c h

    within : row_in b c * words_for (width b) + column_in b c / 64 < length words
    within = subst (λ (n : ℕ). row_in b c * words_for (width b) + column_in b c / 64 < n) (sym rows.count) (place_within (column_in b c) (row_in b c) (width b) (height b) (column_within b c inside) (row_within b c inside))

    word_in : (i w : ℕ) → i < w → i / 64 < words_for w
    word_in i w h = omega arith

    word_below : (i p : ℕ) → i < 64 * p → i / 64 < p
    word_below i p h = omega arith

    far : (i k w : ℕ) → w ≤ i → k < w → i ≡ k → ⊥
    far i k w h g e = omega arith
