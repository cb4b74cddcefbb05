-- The bits of words that are joined or shifted by one place.
use Rattle.std.proofs.Common.{◌≡◌, ℕ, zero, suc, ◌+◌, ◌-◌, ◌*◌, ◌/◌, ◌%◌, ◌^◌, ◌<◌, ◌≤◌, Bool, true, false, ◌&&◌, ◌||◌, cond, refl, sym, ap, ◌∙◌, arith, max, List, get_or}
use Rattle.std.specs.Prelude.{◌==◌, bit_or, nat_le, nat_lt}
use Rattle.std.specs.Int.{bit_at}
use Rattle.std.proofs.lemmas.Nat.Bits.{bit_at_or, bit_at-lt, bit_at-suc, bit_at_lowest, bit_at_cat_low}
use Rattle.std.proofs.Math.Bool.{and-false, or-false}
use Rattle.std.proofs.lemmas.Bool.Decides.{nat_tests}
use Rattle.std.proofs.lemmas.Bool.{eqb-true, le-ltb, lt-leb, lt-ltb, ltb-false, ltb-true}
use Rattle.amr_tags.specs.Bits.{bit, bit_of, words_for}
use Rattle.amr_tags.specs.Grown.{after, before, beside, widened}
use Rattle.amr_tags.proofs.Places.{apart}

either : (x y : ℕ) → x < 2 → y < 2 → (max x y == 1) ≡ ((x == 1) || (y == 1))
either x y h k = grind (arith, nat_tests)

pub or-bit : (a b i : ℕ) → bit (bit_or a b) i ≡ (bit a i || bit b i)
or-bit a b i = ap (λ k. k == 1) (bit_at_or a b i) ∙ either (bit_at a i) (bit_at b i) (bit_at-lt a i) (bit_at-lt b i)

pub three-bit : (a b c i : ℕ) → bit (bit_or a (bit_or b c)) i ≡ (bit a i || (bit b i || bit c i))
three-bit a b c i = or-bit a (bit_or b c) i ∙ ap (λ t. bit a i || t) (or-bit b c i)

-- ---- one place up

doubled-first : (w : ℕ) → bit (w * 2 % 18446744073709551616) 0 ≡ false
doubled-first w = ap (λ t. t == 1) (bit_at_lowest (w * 2 % 18446744073709551616) ∙ even w)
  where
    even : (w : ℕ) → w * 2 % 18446744073709551616 % 2 ≡ 0
    even w = omega arith

doubled-others : (w i : ℕ) → i < 63 → bit (w * 2 % 18446744073709551616) (i + 1) ≡ bit w i
doubled-others w i h =
    let next : i + 1 ≡ suc i = omega arith in
    let below : i + 1 < 64 = omega arith in
    let parts : w * 2 / 18446744073709551616 * 2 ^ 64 + w * 2 % 18446744073709551616 ≡ w * 2 = omega arith in
    let half : w * 2 / 2 ≡ w = omega arith in
    ap (λ t. t == 1)
    (sym (bit_at_cat_low (w * 2 / 18446744073709551616) 64 (w * 2 % 18446744073709551616) (i + 1) below)
    ∙ ap (λ t. bit_at t (i + 1)) parts
    ∙ ap (bit_at (w * 2)) next
    ∙ bit_at-suc (w * 2) i
    ∙ ap (λ t. bit_at t i) half)

pub up-first : (w r : ℕ) (t : Bool) → bit r 0 ≡ (bit (w * 2 % 18446744073709551616) 0 || (t && (0 == 0))) → bit r 0 ≡ t
up-first w r t e = e ∙ ap (λ k. k || (t && (0 == 0))) (doubled-first w) ∙ alone t
  where
    alone : (t : Bool) → (t && (0 == 0)) ≡ t
    alone true = refl
    alone false = refl

pub up-others : (w r : ℕ) (t : Bool) (i : ℕ) → i < 63 → bit r (i + 1) ≡ (bit (w * 2 % 18446744073709551616) (i + 1) || (t && (i + 1 == 0))) → bit r (i + 1) ≡ bit w i
up-others w r t i h e =
    e
    ∙ ap (λ k. bit (w * 2 % 18446744073709551616) (i + 1) || (t && k)) (apart i)
    ∙ ap (λ k. bit (w * 2 % 18446744073709551616) (i + 1) || k) (and-false t)
    ∙ or-false (bit (w * 2 % 18446744073709551616) (i + 1))
    ∙ doubled-others w i h
  where
    apart : (i : ℕ) → (i + 1 == 0) ≡ false
    apart i = grind (arith, nat_tests)

-- ---- one place down

pub down-last : (w r : ℕ) (t : Bool) → w < 18446744073709551616 → bit r 63 ≡ (bit (w / 2) 63 || (t && (63 == 63))) → bit r 63 ≡ t
down-last w r t h e = e ∙ ap (λ k. k || (t && (63 == 63))) (ap (λ k. k == 1) (none w h)) ∙ alone t
  where
    none : (w : ℕ) → w < 18446744073709551616 → bit_at (w / 2) 63 ≡ 0
    none w h = omega arith

    alone : (t : Bool) → (t && (63 == 63)) ≡ t
    alone true = refl
    alone false = refl

pub down-others : (w r : ℕ) (t : Bool) (i : ℕ) → i < 63 → bit r i ≡ (bit (w / 2) i || (t && (i == 63))) → bit r i ≡ bit w (i + 1)
down-others w r t i h e =
    let next : suc i ≡ i + 1 = omega arith in
    e
    ∙ ap (λ k. bit (w / 2) i || (t && k)) (apart i h)
    ∙ ap (λ k. bit (w / 2) i || k) (and-false t)
    ∙ or-false (bit (w / 2) i)
    ∙ ap (λ k. k == 1) (sym (bit_at-suc w i))
    ∙ ap (bit w) next
  where
    apart : (i : ℕ) → i < 63 → (i == 63) ≡ false
    apart i h = grind (arith, nat_tests)

-- ---- a word of a row, with the bits beside its own

pub place-bit : (p : ℕ) (words : List ℕ) (k j b : ℕ) → b < 64 → bit (get_or words (j * p + k) 0) b ≡ bit_of p words (64 * k + b) j
place-bit p words k j b h =
    let q : k ≡ (64 * k + b) / 64 = omega arith in
    let r : b ≡ (64 * k + b) % 64 = omega arith in
    ap (λ t. bit (get_or words (j * p + t) 0) b) q ∙ ap (bit (get_or words (j * p + (64 * k + b) / 64) 0)) r

up-bit : (p : ℕ) (words : List ℕ) (wrap : Bool) (width k j u : ℕ) → bit u 0 ≡ before wrap width (λ i. bit_of p words i j) (64 * k) → ((i : ℕ) → i < 63 → bit u (i + 1) ≡ bit (get_or words (j * p + k) 0) i) → (b : ℕ) → b < 64 → bit u b ≡ before wrap width (λ i. bit_of p words i j) (64 * k + b)
up-bit p words wrap width k j u first others zero h = let e : 64 * k ≡ 64 * k + 0 = omega arith in first ∙ ap (before wrap width (λ i. bit_of p words i j)) e
up-bit p words wrap width k j u first others (suc b) h =
    let e : suc b ≡ b + 1 = omega arith in
    let g : suc (64 * k + b) ≡ 64 * k + suc b = omega arith in
    ap (bit u) e ∙ others b (omega arith) ∙ place-bit p words k j b (omega arith) ∙ ap (before wrap width (λ i. bit_of p words i j)) g

down-bit : (p : ℕ) (words : List ℕ) (k j d b : ℕ) → bit d 63 ≡ (nat_lt (k + 1) p && bit_of p words (64 * (k + 1)) j) → ((i : ℕ) → i < 63 → bit d i ≡ bit (get_or words (j * p + k) 0) (i + 1)) → b < 64 → k < p → bit d b ≡ (nat_lt (64 * k + b + 1) (64 * p) && bit_of p words (64 * k + b + 1) j)
down-bit p words k j d b last others h inside = step (b == 63) refl
  where
    same : (k p b : ℕ) → b ≡ 63 → nat_lt (k + 1) p ≡ nat_lt (64 * k + b + 1) (64 * p)
    same k p b e = grind (arith, nat_tests)

    step : (t : Bool) → (b == 63) ≡ t → bit d b ≡ (nat_lt (64 * k + b + 1) (64 * p) && bit_of p words (64 * k + b + 1) j)
    step true e =
        let is : b ≡ 63 = eqb-true b 63 e in
        let g : 64 * (k + 1) ≡ 64 * k + b + 1 = omega arith in
        ap (bit d) is ∙ last ∙ ap (λ t. t && bit_of p words (64 * (k + 1)) j) (same k p b is) ∙ ap (λ i. nat_lt (64 * k + b + 1) (64 * p) && bit_of p words i j) g
    step false e =
        let below : b < 63 = under b h (apart b 63 e) in
        let more : b + 1 < 64 = omega arith in
        let g : 64 * k + (b + 1) ≡ 64 * k + b + 1 = omega arith in
        let room : 64 * k + b + 1 < 64 * p = omega arith in
        others b below ∙ place-bit p words k j (b + 1) more ∙ ap (λ i. bit_of p words i j) g ∙ ap (λ t. t && bit_of p words (64 * k + b + 1) j) (sym (lt-ltb (64 * k + b + 1) (64 * p) room))
      where
        under : (b : ℕ) → b < 64 → (b ≡ 63 → ⊥) → b < 63
        under b h n = grind arith

-- the bit after one, where the row has one more: it is there
after-inside : (wrap : Bool) (width p : ℕ) (f : ℕ → Bool) (i : ℕ) → i + 1 < width → width ≤ 64 * p → (nat_lt (i + 1) (64 * p) && f (i + 1)) ≡ after wrap width f i
after-inside wrap width p f i h k =
    let more : i + 1 < 64 * p = omega arith in
    ap (λ t. t && f (i + 1)) (lt-ltb (i + 1) (64 * p) more) ∙ sym (ap (λ t. cond t (f (i + 1)) (wrap && f 0)) (lt-ltb (i + 1) width h))

pub three-beside : (p : ℕ) (words : List ℕ) (wrap : Bool) (width k j u d : ℕ) → p ≡ words_for width → 1 ≤ width → k < p → bit u 0 ≡ before wrap width (λ i. bit_of p words i j) (64 * k) → ((i : ℕ) → i < 63 → bit u (i + 1) ≡ bit (get_or words (j * p + k) 0) i) → bit d 63 ≡ (nat_lt (k + 1) p && bit_of p words (64 * (k + 1)) j) → ((i : ℕ) → i < 63 → bit d i ≡ bit (get_or words (j * p + k) 0) (i + 1)) → (b : ℕ) → b < 64 → (bit (get_or words (j * p + k) 0) b || (bit u b || bit d b)) ≡ (bit_of p words (64 * k + b) j || (before wrap width (λ i. bit_of p words i j) (64 * k + b) || (nat_lt (64 * k + b + 1) (64 * p) && bit_of p words (64 * k + b + 1) j)))
three-beside p words wrap width k j u d shape some inside first up last down b h =
    ap (λ t. t || (bit u b || bit d b)) (place-bit p words k j b h)
    ∙ ap (λ t. bit_of p words (64 * k + b) j || (t || bit d b)) (up-bit p words wrap width k j u first up b h)
    ∙ ap (λ t. bit_of p words (64 * k + b) j || (before wrap width (λ i. bit_of p words i j) (64 * k + b) || t)) (down-bit p words k j d b last down h inside)

-- a word that another one follows in its row
pub inner-word : (p : ℕ) (words : List ℕ) (wrap : Bool) (width k j b : ℕ) → p ≡ words_for width → 1 ≤ width → k + 1 < p → b < 64 → (bit_of p words (64 * k + b) j || (before wrap width (λ i. bit_of p words i j) (64 * k + b) || (nat_lt (64 * k + b + 1) (64 * p) && bit_of p words (64 * k + b + 1) j))) ≡ widened wrap width p words (64 * k + b) j
inner-word p words wrap width k j b shape some inside h =
    let more : 64 * k + b + 1 < width = omega arith in
    let here : 64 * k + b < width = omega arith in
    let fits : width ≤ 64 * p = omega arith in
    ap (λ t. bit_of p words (64 * k + b) j || (before wrap width (λ i. bit_of p words i j) (64 * k + b) || t)) (after-inside wrap width p (λ i. bit_of p words i j) (64 * k + b) more fits)
    ∙ sym (ap (λ t. t && beside wrap width (λ i. bit_of p words i j) (64 * k + b)) (lt-ltb (64 * k + b) width here))

-- the last word of a row
pub last-word : (p : ℕ) (words : List ℕ) (wrap : Bool) (width k j b : ℕ) (around : Bool) → p ≡ words_for width → 1 ≤ width → k + 1 ≡ p → b < 64 → ((i : ℕ) → width ≤ i → i < 64 * p → bit_of p words i j ≡ false) → around ≡ (wrap && bit_of p words 0 j) → (((bit_of p words (64 * k + b) j || (before wrap width (λ i. bit_of p words i j) (64 * k + b) || (nat_lt (64 * k + b + 1) (64 * p) && bit_of p words (64 * k + b + 1) j))) || (around && (b == (width - 1) % 64))) && nat_le b ((width - 1) % 64)) ≡ widened wrap width p words (64 * k + b) j
last-word p words wrap width k j b around shape some inside h unused closes = step (nat_lt (64 * k + b + 1) width) refl
  where
    below_not : (a b : ℕ) → a < b → (a == b) ≡ false
    below_not a b h = grind (arith, nat_tests)

    below_le : (a b : ℕ) → a < b → nat_le a b ≡ true
    below_le a b h = grind (arith, nat_tests)

    same_le : (a b : ℕ) → a ≡ b → nat_le a b ≡ true
    same_le a b h = grind (arith, nat_tests)

    stripped : (a r : Bool) → ((a || (r && false)) && true) ≡ a
    stripped true r = refl
    stripped false true = refl
    stripped false false = refl

    closed : (x y r : Bool) → (((x || (y || false)) || (r && true)) && true) ≡ (x || (y || r))
    closed true y r = refl
    closed false true r = refl
    closed false false true = refl
    closed false false false = refl

    end : ℕ
    end = (width - 1) % 64

    f : ℕ → Bool
    f i = bit_of p words i j

    x : Bool
    x = f (64 * k + b)

    y : Bool
    y = before wrap width f (64 * k + b)

    z : Bool
    z = nat_lt (64 * k + b + 1) (64 * p) && f (64 * k + b + 1)

    step : (t : Bool) → nat_lt (64 * k + b + 1) width ≡ t → (((x || (y || z)) || (around && (b == end))) && nat_le b end) ≡ widened wrap width p words (64 * k + b) j
    step true e =
        let more : 64 * k + b + 1 < width = ltb-true (64 * k + b + 1) width e in
        let here : 64 * k + b < width = omega arith in
        let fits : width ≤ 64 * p = omega arith in
        let before_end : b < end = omega arith in
        ap (λ t. ((x || (y || t)) || (around && (b == end))) && nat_le b end) (after-inside wrap width p f (64 * k + b) more fits)
        ∙ ap (λ t. ((x || (y || after wrap width f (64 * k + b))) || (around && t)) && nat_le b end) (below_not b end before_end)
        ∙ ap (λ t. ((x || (y || after wrap width f (64 * k + b))) || (around && false)) && t) (below_le b end before_end)
        ∙ stripped (x || (y || after wrap width f (64 * k + b))) around
        ∙ sym (ap (λ t. t && beside wrap width f (64 * k + b)) (lt-ltb (64 * k + b) width here))
    step false e =
        let over : width ≤ 64 * k + b + 1 = ltb-false (64 * k + b + 1) width e in
        ap (λ t. ((x || (y || t)) || (around && (b == end))) && nat_le b end) (no_next (64 * k + b + 1) over (nat_lt (64 * k + b + 1) (64 * p)) refl)
        ∙ at_end over (b == end) refl
      where
        no_next : (i : ℕ) → width ≤ i → (t : Bool) → nat_lt i (64 * p) ≡ t → (nat_lt i (64 * p) && f i) ≡ false
        no_next i over true g = ap (λ t. t && f i) g ∙ unused i over (ltb-true i (64 * p) g)
        no_next i over false g = ap (λ t. t && f i) g

        at_end : width ≤ 64 * k + b + 1 → (t : Bool) → (b == end) ≡ t → (((x || (y || false)) || (around && (b == end))) && nat_le b end) ≡ widened wrap width p words (64 * k + b) j
        at_end over true g =
            let is : b ≡ end = eqb-true b end g in
            let here : 64 * k + b < width = omega arith in
            ap (λ t. ((x || (y || false)) || (around && t)) && nat_le b end) g
            ∙ ap (λ t. ((x || (y || false)) || (around && true)) && t) (same_le b end is)
            ∙ closed x y around
            ∙ ap (λ t. x || (y || t)) (closes ∙ sym (ap (λ t. cond t (f (64 * k + b + 1)) (wrap && f 0)) e))
            ∙ sym (ap (λ t. t && beside wrap width f (64 * k + b)) (lt-ltb (64 * k + b) width here))
        at_end over false g =
            let apart_is : b ≡ end → ⊥ = apart b end g in
            let past : end < b = beyond apart_is in
            let gone : width ≤ 64 * k + b = omega arith in
            ap (λ t. ((x || (y || false)) || (around && (b == end))) && t) (lt-leb b end past)
            ∙ and-false ((x || (y || false)) || (around && (b == end)))
            ∙ sym (ap (λ t. t && beside wrap width f (64 * k + b)) (le-ltb (64 * k + b) width gone))
          where
            beyond : (b ≡ end → ⊥) → end < b
            beyond n = by_cases (nat_lt end b) refl
              where
                by_cases : (t : Bool) → nat_lt end b ≡ t → end < b
                by_cases true m = ltb-true end b m
                by_cases false m = let le : b ≤ end = ltb-false end b m in absurd (n (omega arith))
