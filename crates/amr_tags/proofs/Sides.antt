-- A place of an axis or one beside it, as a step of at most one place.
use Rattle.std.proofs.Common.{◌≡◌, ℕ, zero, suc, ◌+◌, ◌-◌, ◌*◌, ◌%◌, ◌<◌, Bool, true, false, ◌&&◌, ◌||◌, cond, ℤ, pos, negsuc, ◌+ℤ◌, ◌-ℤ◌, ◌≤ℤ◌, refl, sym, ap, ◌∙◌, arith}
use Rattle.std.specs.Prelude.{nat_lt}
use Rattle.std.specs.Int.{int_rem_euclid}
use native.Mathlib.Nat.{add-mul-mod_self_right, mod-eq_of_lt}
use Rattle.std.proofs.lemmas.Bool.{ltb-false, ltb-true, or_left, or_right}
use Rattle.std.proofs.lemmas.Int.{ints}
use Rattle.amr_tags.specs.Grown.{after, before, beside}
use Rattle.amr_tags.specs.TagSets.{wrapped}
use Rattle.amr_tags.proofs.Offsets.{wrapped-itself}

pub record IsStep (wrap : Bool) (low : ℤ) (w : ℕ) (f : ℕ → Bool) (i : ℕ) : Type 0 where
  pub way : ℤ
  pub at : ℕ
  pub way_low : (pos 0 -ℤ pos 1) ≤ℤ way
  pub way_high : way ≤ℤ pos 1
  pub inside : at < w
  pub ends : wrapped wrap low w (low +ℤ pos i +ℤ way) ≡ low +ℤ pos at
  pub passes : f at ≡ true

-- a step to a place of the axis that passes, with no turn round its end
plain : (wrap : Bool) (low : ℤ) (w : ℕ) (f : ℕ → Bool) (i : ℕ) (d : ℤ) (k : ℕ) → (pos 0 -ℤ pos 1) ≤ℤ d → d ≤ℤ pos 1 → k < w → pos i +ℤ d ≡ pos k → f k ≡ true → IsStep wrap low w f i
plain wrap low w f i d k a b h e p = record { way = d; at = k; way_low = a; way_high = b; inside = h; ends = wrapped-itself wrap low w (low +ℤ pos k) (low +ℤ pos i +ℤ d) (omega (arith, ints, e)) (omega (arith, ints)) (omega (arith, ints)); passes = p }

pub from-before : (wrap : Bool) (low : ℤ) (w : ℕ) (f : ℕ → Bool) (i : ℕ) → i < w → before wrap w f i ≡ true → IsStep wrap low w f i
from-before wrap low w f (suc i) h e = plain wrap low w f (suc i) (pos 0 -ℤ pos 1) i (omega (arith, ints)) (omega (arith, ints)) (omega arith) (omega (arith, ints)) e
from-before false low w f zero h e = absurd (cc)
from-before true low w f zero h e =
    let arg : low +ℤ pos 0 +ℤ (pos 0 -ℤ pos 1) -ℤ low ≡ negsuc 0 = omega (arith, ints) in
    let last : low +ℤ pos (w - 1 - 0) ≡ low +ℤ pos (w - 1) = omega (arith, ints) in
    record {
      way = pos 0 -ℤ pos 1;
      at = w - 1;
      way_low = omega (arith, ints);
      way_high = omega (arith, ints);
      inside = omega arith;
      ends = ap (λ (t : ℤ). low +ℤ int_rem_euclid t (pos w)) arg ∙ ap (λ (t : ℕ). low +ℤ pos (w - 1 - t)) (mod-eq_of_lt h) ∙ last;
      passes = e;
    }

-- a whole turn
turn : (low : ℤ) (w i : ℕ) → i + 1 ≡ w → wrapped true low w (low +ℤ pos i +ℤ pos 1) ≡ low +ℤ pos 0
turn low w i e =
    let arg : low +ℤ pos i +ℤ pos 1 -ℤ low ≡ pos w = omega (arith, ints, e) in
    let some : 0 < w = omega arith in
    let whole : 0 + 1 * w ≡ w = omega arith in
    ap (λ (t : ℤ). low +ℤ int_rem_euclid t (pos w)) arg ∙ ap (λ (t : ℕ). low +ℤ pos t) (ap (λ t. t % w) (sym whole) ∙ add-mul-mod_self_right 0 1 w ∙ mod-eq_of_lt some)

pub from-after : (wrap : Bool) (low : ℤ) (w : ℕ) (f : ℕ → Bool) (i : ℕ) → i < w → after wrap w f i ≡ true → IsStep wrap low w f i
from-after wrap low w f i h e = step (nat_lt (i + 1) w) refl
  where
    around : (wrap : Bool) → i + 1 ≡ w → (wrap && f 0) ≡ true → IsStep wrap low w f i
    around true g p = record { way = pos 1; at = 0; way_low = omega (arith, ints); way_high = omega (arith, ints); inside = omega arith; ends = turn low w i g; passes = p }
    around false g p = absurd (cc)

    step : (t : Bool) → nat_lt (i + 1) w ≡ t → IsStep wrap low w f i
    step true g = plain wrap low w f i (pos 1) (i + 1) (omega (arith, ints)) (omega (arith, ints)) (ltb-true (i + 1) w g) (omega (arith, ints)) (sym (ap (λ t. cond t (f (i + 1)) (wrap && f 0)) g) ∙ e)
    step false g = let over = ltb-false (i + 1) w g in around wrap (omega arith) (sym (ap (λ t. cond t (f (i + 1)) (wrap && f 0)) g) ∙ e)

pub from-beside : (wrap : Bool) (low : ℤ) (w : ℕ) (f : ℕ → Bool) (i : ℕ) → i < w → beside wrap w f i ≡ true → IsStep wrap low w f i
from-beside wrap low w f i h e = itself (f i) refl
  where
    next : (t : Bool) → before wrap w f i ≡ t → (t || after wrap w f i) ≡ true → IsStep wrap low w f i
    next true g p = from-before wrap low w f i h g
    next false g p = from-after wrap low w f i h p

    itself : (t : Bool) → f i ≡ t → IsStep wrap low w f i
    itself true g = plain wrap low w f i (pos 0) i (omega (arith, ints)) (omega (arith, ints)) h (omega (arith, ints)) g
    itself false g = next (before wrap w f i) refl (sym (ap (λ t. t || (before wrap w f i || after wrap w f i)) g) ∙ e)

-- ---- and back

same_at : (low : ℤ) (z : ℤ) (j k : ℕ) → z ≡ low +ℤ pos j → z ≡ low +ℤ pos k → k ≡ j
same_at low z j k e g = omega (arith, ints, e, g)

at-itself : (wrap : Bool) (low : ℤ) (w i k : ℕ) (d : ℤ) (j : ℕ) → j < w → pos i +ℤ d ≡ pos j → wrapped wrap low w (low +ℤ pos i +ℤ d) ≡ low +ℤ pos k → k ≡ j
at-itself wrap low w i k d j h e g = same_at low (wrapped wrap low w (low +ℤ pos i +ℤ d)) j k (wrapped-itself wrap low w (low +ℤ pos j) (low +ℤ pos i +ℤ d) (omega (arith, ints, e)) (omega (arith, ints)) (omega (arith, ints))) g

pub to-after : (wrap : Bool) (low : ℤ) (w : ℕ) (f : ℕ → Bool) (i k : ℕ) → i < w → k < w → wrapped wrap low w (low +ℤ pos i +ℤ pos 1) ≡ low +ℤ pos k → f k ≡ true → after wrap w f i ≡ true
to-after wrap low w f i k h below g p = step (nat_lt (i + 1) w) refl
  where
    around : (wrap : Bool) → i + 1 ≡ w → wrapped wrap low w (low +ℤ pos i +ℤ pos 1) ≡ low +ℤ pos k → (wrap && f 0) ≡ true
    around true e g = ap f (sym (same_at low (wrapped true low w (low +ℤ pos i +ℤ pos 1)) 0 k (turn low w i e) g)) ∙ p
    around false e g = absurd (omega (arith, ints, g))

    step : (t : Bool) → nat_lt (i + 1) w ≡ t → after wrap w f i ≡ true
    step true e = ap (λ t. cond t (f (i + 1)) (wrap && f 0)) e ∙ ap f (sym (at-itself wrap low w i k (pos 1) (i + 1) (ltb-true (i + 1) w e) (omega (arith, ints)) g)) ∙ p
    step false e = let over = ltb-false (i + 1) w e in ap (λ t. cond t (f (i + 1)) (wrap && f 0)) e ∙ around wrap (omega arith) g

-- the place before the first one of a periodic axis
back_turn : (low : ℤ) (w : ℕ) → 0 < w → wrapped true low w (low +ℤ pos 0 +ℤ (pos 0 -ℤ pos 1)) ≡ low +ℤ pos (w - 1)
back_turn low w h =
    let arg : low +ℤ pos 0 +ℤ (pos 0 -ℤ pos 1) -ℤ low ≡ negsuc 0 = omega (arith, ints) in
    let last : low +ℤ pos (w - 1 - 0) ≡ low +ℤ pos (w - 1) = omega (arith, ints) in
    ap (λ (t : ℤ). low +ℤ int_rem_euclid t (pos w)) arg ∙ ap (λ (t : ℕ). low +ℤ pos (w - 1 - t)) (mod-eq_of_lt h) ∙ last

pub to-before : (wrap : Bool) (low : ℤ) (w : ℕ) (f : ℕ → Bool) (i k : ℕ) → i < w → k < w → wrapped wrap low w (low +ℤ pos i +ℤ (pos 0 -ℤ pos 1)) ≡ low +ℤ pos k → f k ≡ true → before wrap w f i ≡ true
to-before wrap low w f (suc i) k h below g p = ap f (sym (at-itself wrap low w (suc i) k (pos 0 -ℤ pos 1) i (omega arith) (omega (arith, ints)) g)) ∙ p
to-before true low w f zero k h below g p = ap f (sym (same_at low (wrapped true low w (low +ℤ pos 0 +ℤ (pos 0 -ℤ pos 1))) (w - 1) k (back_turn low w h) g)) ∙ p
to-before false low w f zero k h below g p = absurd (omega (arith, ints, g))

data Way (d : ℤ) : Type 0 where
  ahead : d ≡ pos 1 → Way d
  still : d ≡ pos 0 → Way d
  back : d ≡ pos 0 -ℤ pos 1 → Way d

ways : (d : ℤ) → (pos 0 -ℤ pos 1) ≤ℤ d → d ≤ℤ pos 1 → Way d
ways (pos zero) a b = still refl
ways (pos (suc n)) a b = ahead (omega (arith, ints, b))
ways (negsuc n) a b = back (omega (arith, ints, a))

pub to-beside : (wrap : Bool) (low : ℤ) (w : ℕ) (f : ℕ → Bool) (i : ℕ) → i < w → IsStep wrap low w f i → beside wrap w f i ≡ true
to-beside wrap low w f i h s = by (ways s.way s.way_low s.way_high)
  where
    ends_at : (d : ℤ) → s.way ≡ d → wrapped wrap low w (low +ℤ pos i +ℤ d) ≡ low +ℤ pos s.at
    ends_at d e = ap (λ (t : ℤ). wrapped wrap low w (low +ℤ pos i +ℤ t)) (sym e) ∙ s.ends

    by : Way s.way → beside wrap w f i ≡ true
    by (ahead e) = or_right (f i) (before wrap w f i || after wrap w f i) (or_right (before wrap w f i) (after wrap w f i) (to-after wrap low w f i s.at h s.inside (ends_at (pos 1) e) s.passes))
    by (still e) = or_left (f i) (before wrap w f i || after wrap w f i) (ap f (sym (at-itself wrap low w i s.at (pos 0) i h (omega (arith, ints)) (ends_at (pos 0) e))) ∙ s.passes)
    by (back e) = or_right (f i) (before wrap w f i || after wrap w f i) (or_left (before wrap w f i) (after wrap w f i) (to-before wrap low w f i s.at h s.inside (ends_at (pos 0 -ℤ pos 1) e) s.passes))
