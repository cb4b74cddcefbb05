-- A pass over the rows, word by word.
use Rattle.std.proofs.Common.{◌≡◌, ℕ, ◌+◌, ◌*◌, ◌/◌, ◌%◌, ◌<◌, Bool, true, false, refl, sym, ap, ◌∙◌, subst, arith, List, length, set, get_or}
use Rattle.std.specs.Prelude.{◌==◌}
use Rattle.std.proofs.lemmas.List.{get_or-set_same, get_or-set_other}
use Rattle.std.proofs.lemmas.Nat.{mul-add-lt, same_from_place}
use Rattle.std.proofs.lemmas.Bool.{eqb-true}
use Rattle.amr_tags.specs.Bits.{bit, bit_of}
use Rattle.amr_tags.specs.Grown.{AreBits}
use Rattle.amr_tags.proofs.Places.{apart}

-- one word more
pub next-bits : (p : ℕ) (words : List ℕ) (test : ℕ → ℕ → Bool) (k c v : ℕ) → k < p → c * p + k < length words → AreBits p words test (c * p + k) → ((b : ℕ) → b < 64 → bit v b ≡ test (64 * k + b) c) → AreBits p (set words (c * p + k) v) test (c * p + (k + 1))
next-bits p words test k c v hk within done new = λ i j hi h. step i j hi (shift i j h) ((j * p + i / 64) == (c * p + k)) refl
  where
    shift : (i j : ℕ) → j * p + i / 64 < c * p + (k + 1) → j * p + i / 64 < c * p + k + 1
    shift i j h = omega arith

    step : (i j : ℕ) → i / 64 < p → j * p + i / 64 < c * p + k + 1 → (t : Bool) → ((j * p + i / 64) == (c * p + k)) ≡ t → bit_of p (set words (c * p + k) v) i j ≡ test i j
    step i j hi h true e =
        let place : j * p + i / 64 ≡ c * p + k = eqb-true (j * p + i / 64) (c * p + k) e in
        let both = same_from_place j (i / 64) c k p hi hk place in
        let low : i % 64 < 64 = omega arith in
        ap (λ t. bit (get_or (set words (c * p + k) v) t 0) (i % 64)) place
        ∙ ap (λ t. bit t (i % 64)) (get_or-set_same words (c * p + k) v 0 within)
        ∙ new (i % 64) low
        ∙ ap (λ t. test t c) (whole i k both.1)
        ∙ ap (test i) (sym both.0)
      where
        whole : (i k : ℕ) → i / 64 ≡ k → 64 * k + i % 64 ≡ i
        whole i k e = omega arith
    step i j hi h false e =
        ap (λ t. bit t (i % 64)) (get_or-set_other words (c * p + k) (j * p + i / 64) v 0 (apart (j * p + i / 64) (c * p + k) e))
        ∙ done i j hi (less (j * p + i / 64) (c * p + k) h (apart (j * p + i / 64) (c * p + k) e))
      where
        less : (a b : ℕ) → a < b + 1 → (a ≡ b → ⊥) → a < b
        less a b h n = grind arith

pub all-bits : (p : ℕ) (words : List ℕ) (test : ℕ → ℕ → Bool) (j height count : ℕ) → j ≡ height → count ≡ height * p → AreBits p words test (j * p) → AreBits p words test count
all-bits p words test j height count e f done = subst (AreBits p words test) (ap (λ t. t * p) e ∙ sym f) done

-- word k of row j stands before the end of so many rows
pub place-within : (j k p height n : ℕ) → j < height → k < p → n ≡ height * p → j * p + k < n
place-within j k p height n hj hk e = let m = mul-add-lt j p k height hj hk in omega (arith, m)
