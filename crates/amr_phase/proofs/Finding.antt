-- What is found in a list, and where.
use Rattle.std.proofs.Common.{◌≡◌, ◌≢◌, ℕ, zero, suc, ◌+◌, ◌<◌, ◌≤◌, cond, Bool, true, false, true≢false, List, [], ◌∷◌, length, get_or, set, Some, None, refl, sym, subst, arith}
use Rattle.std.specs.Prelude.{is_some, Option, nat_lt, position}
use Rattle.std.specs.List.{position_or_len}
use Rattle.std.proofs.lemmas.List.{get_or-set_same, get_or-set_other}
use Rattle.std.proofs.lemmas.List.Recursion.{is_position_or_len}
use Rattle.std.proofs.lemmas.Bool.{ltb-false}
use mathlib.Core.Logic.{dite}
use native.Mathlib.Decide.{ℕ_discrete}

-- what holds at each place holds after one is replaced
pub at_set : {X : Type 0} (Q : ℕ → X → Type 0) (xs : List X) (i : ℕ) (y d : X) → i < length xs → ((j : ℕ) → j ≢ i → Q j (get_or xs j d)) → Q i y → (j : ℕ) → Q j (get_or (set xs i y) j d)
at_set Q xs i y d lt others mine j =
    dite (ℕ_discrete j i)
    (λ e. subst (λ k. Q k (get_or (set xs i y) k d)) (sym e) (subst (Q i) (sym (get_or-set_same xs i y d lt)) mine))
    (λ ne. subst (Q j) (sym (get_or-set_other xs i j y d ne)) (others j ne))

first : {X : Type 0} → (X → Bool) → List X → ℕ
first p [] = 0
first p (x ∷ xs) = cond (p x) 0 (1 + first p xs)

first_is : {X : Type 0} (p : X → Bool) (xs : List X) → first p xs ≡ position_or_len p xs
unfolding first
first_is p xs = is_position_or_len (first p) p refl (λ x xs. refl) xs

first_none : {X : Type 0} (p : X → Bool) (xs : List X) (d : X) → p d ≡ false → length xs ≤ first p xs → (k : ℕ) → p (get_or xs k d) ≡ false
unfolding first
first_none p [] d never le k = never
first_none p (x ∷ xs) d never le k = by_test (p x) refl (λ le'. first_none p xs d never le') k
  where
    by_test : (b : Bool) → p x ≡ b → (length xs ≤ first p xs → (k : ℕ) → p (get_or xs k d) ≡ false) → (k : ℕ) → p (get_or (x ∷ xs) k d) ≡ false
    by_test true e go k = absurd (let l : suc (length xs) ≤ 0 = subst (λ b. suc (length xs) ≤ cond b 0 (1 + first p xs)) e le in omega arith)
    by_test false e go zero = e
    by_test false e go (suc k) = go (let l : suc (length xs) ≤ 1 + first p xs = subst (λ b. suc (length xs) ≤ cond b 0 (1 + first p xs)) e le in omega arith) k

some_or : (b : Bool) (n : ℕ) → cond b (Some n) None ≡ None → b ≡ false
some_or true n e = absurd (cc)
some_or false n e = refl

-- where no place passes, none does
pub none_passes : {X : Type 0} (p : X → Bool) (xs : List X) (d : X) → p d ≡ false → position p xs ≡ None → (k : ℕ) → p (get_or xs k d) ≡ false
none_passes p xs d never e =
    first_none p xs d never (subst (λ n. length xs ≤ n) (sym (first_is p xs)) (ltb-false (position_or_len p xs) (length xs) (some_or (nat_lt (position_or_len p xs) (length xs)) (position_or_len p xs) e)))

pub any_default : {X : Type 0} (xs : List X) (i : ℕ) (x d : X) → i < length xs → x ≡ get_or xs i x → get_or xs i d ≡ x
any_default [] i x d lt e = absurd (omega arith)
any_default (y ∷ ys) zero x d lt e = sym e
any_default (y ∷ ys) (suc i) x d lt e = any_default ys i x d (omega arith) e

pub none_of : {X : Type 0} (o : Option X) → is_some o ≡ false → o ≡ None
none_of None e = refl
none_of (Some x) e = absurd (true≢false e)
