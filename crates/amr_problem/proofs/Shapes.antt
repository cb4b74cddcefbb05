-- The elements of lists, by place.
use Rattle.std.proofs.Common.{◌≡◌, ◌∙◌, sym, refl, ℕ, ◌<◌, true, false, not, ltb, ℤ, pos, inl, inr, List, [], ◌∷◌, length, get_or, Option, Some, None, is_none, Bool, cond, arith, ap, ◌&&◌}
use Rattle.std.specs.Prelude.{int_le, int_lt}
use Rattle.amr_problem.specs.Faults.{is_inside}
use Rattle.std.proofs.lemmas.Bool.{cases_Bool, true≢false}
use Rattle.std.proofs.lemmas.Bool.Decides.{nat_tests}
use Rattle.std.proofs.lemmas.List.Folds.{list_all_at}
use Rattle.std.specs.List.{list_all, position, position_or_len, prefix_len}

pub five : (zs : List ℤ) → length zs ≡ 5 → zs ≡ get_or zs 0 (pos 0) ∷ get_or zs 1 (pos 0) ∷ get_or zs 2 (pos 0) ∷ get_or zs 3 (pos 0) ∷ get_or zs 4 (pos 0) ∷ []
five [] h = absurd (omega arith)
five (a ∷ []) h = absurd (omega arith)
five (a ∷ b ∷ []) h = absurd (omega arith)
five (a ∷ b ∷ c ∷ []) h = absurd (omega arith)
five (a ∷ b ∷ c ∷ d ∷ []) h = absurd (omega arith)
five (a ∷ b ∷ c ∷ d ∷ e ∷ []) h = refl
five (a ∷ b ∷ c ∷ d ∷ e ∷ f ∷ rest) h = absurd (omega arith)

pub six : (zs : List ℤ) → length zs ≡ 6 → zs ≡ get_or zs 0 (pos 0) ∷ get_or zs 1 (pos 0) ∷ get_or zs 2 (pos 0) ∷ get_or zs 3 (pos 0) ∷ get_or zs 4 (pos 0) ∷ get_or zs 5 (pos 0) ∷ []
six [] h = absurd (omega arith)
six (a ∷ []) h = absurd (omega arith)
six (a ∷ b ∷ []) h = absurd (omega arith)
six (a ∷ b ∷ c ∷ []) h = absurd (omega arith)
six (a ∷ b ∷ c ∷ d ∷ []) h = absurd (omega arith)
six (a ∷ b ∷ c ∷ d ∷ e ∷ []) h = absurd (omega arith)
six (a ∷ b ∷ c ∷ d ∷ e ∷ f ∷ []) h = refl
six (a ∷ b ∷ c ∷ d ∷ e ∷ f ∷ g ∷ rest) h = absurd (omega arith)

-- a block lies inside where it does along each axis
pub inside_by_axis : (nx ny : ℤ) (block : List ℤ) → length block ≡ 6
    → is_inside (nx ∷ ny ∷ []) block ≡ ((int_le (get_or block 0 (pos 0)) (get_or block 2 (pos 0)) && int_lt (get_or block 2 (pos 0)) nx) && (int_le (get_or block 1 (pos 0)) (get_or block 3 (pos 0)) && int_lt (get_or block 3 (pos 0)) ny))
inside_by_axis nx ny block h = ap (is_inside (nx ∷ ny ∷ [])) (six block h) ∙ joined (int_le (get_or block 0 (pos 0)) (get_or block 2 (pos 0))) (int_lt (get_or block 2 (pos 0)) nx) (int_le (get_or block 1 (pos 0)) (get_or block 3 (pos 0))) (int_lt (get_or block 3 (pos 0)) ny)
  where
    joined : (p q r s : Bool) → (p && q && r && s) ≡ ((p && q) && (r && s))
    joined true true true s = refl
    joined true true false s = refl
    joined true false r s = refl
    joined false q r s = refl

pub between_as : (l h m low high n : ℤ) (r : Bool) → r ≡ (int_le l h && int_lt h m) → l ≡ low → h ≡ high → m ≡ n → r ≡ (int_le low high && int_lt high n)
between_as l h m low high n r e p q s = e ∙ (λ i. int_le (p i) (q i) && int_lt (q i) (s i))

pub none_from_test : {A : Type 0} (o : Option A) → is_none o ≡ true → o ≡ None
none_from_test None h = refl
none_from_test (Some x) h = absurd (true≢false (sym h))

-- a test that each element passes, at a place
pub list_all-get : {X : Type 0} (p : X → Bool) (xs : List X) (i : ℕ) (d : X) → i < length xs → list_all p xs ≡ true → p (get_or xs i d) ≡ true
list_all-get p xs i d h all =
    elim (cases_Bool (p (get_or xs i d))) [
      | inl pass ↦ pass
      | inr fail ↦ absurd (true≢false (sym all ∙ list_all_at p xs i d h fail))
    ]

prefix_len-short : {X : Type 0} (p : X → Bool) (xs : List X) → ltb (prefix_len (λ x. not (not (p x))) xs) (length xs) ≡ false → list_all p xs ≡ true
prefix_len-short p [] h = refl
prefix_len-short p (x ∷ xs) h =
    elim (cases_Bool (p x)) [
      | inl pass ↦ rw pass (prefix_len-short p xs (let e = rw pass at h in grind (arith, nat_tests)))
      | inr fail ↦ absurd (let e = rw fail at h in grind (arith, nat_tests))
    ]

option_of_test : {A : Type 0} (b : Bool) (x : A) → cond b (Some x) None ≡ None → b ≡ false
option_of_test true x h = absurd (cc)
option_of_test false x h = refl

-- no element fails the test
pub position-none : {X : Type 0} (p : X → Bool) (xs : List X) → position (λ x. not (p x)) xs ≡ None → list_all p xs ≡ true
position-none p xs h = prefix_len-short p xs (option_of_test _ (position_or_len (λ x. not (p x)) xs) h)
