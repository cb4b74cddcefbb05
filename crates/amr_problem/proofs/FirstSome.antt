-- The first of several options.
use Rattle.std.proofs.Common.{◌≡◌, ◌∙◌, sym, ap, refl, ℕ, ◌+◌, ◌<◌, length, drop, get_or, map, List, [], ◌∷◌, ◌++◌, Option, Some, None, option_map}
use Rattle.std.proofs.lemmas.List.{drop_more}
use Rattle.std.specs.Option.{option_or}
use Rattle.std.specs.List.{fold}
use Rattle.amr_problem.specs.Faults.{first_some}

-- none of two
pub record AreNone {A : Type 0} (a b : Option A) : Type 0 where
  pub first : a ≡ None
  pub second : b ≡ None

pub both_none : {A : Type 0} (a b : Option A) → option_or a b ≡ None → AreNone a b
both_none None b h = record { first = refl; second = h }
both_none (Some x) b h = absurd (cc)

pub option_map-none : {A B : Type 0} (f : A → B) (o : Option A) → option_map f o ≡ None → o ≡ None
option_map-none f None h = refl
option_map-none f (Some x) h = absurd (cc)

pub or_or : {A : Type 0} (a b c : Option A) → option_or (option_or a b) c ≡ option_or a (option_or b c)
or_or None b c = refl
or_or (Some x) b c = refl

pub fold-some : {A : Type 0} (x : A) (os : List (Option A)) → fold option_or (Some x) os ≡ Some x
fold-some x [] = refl
fold-some x (o ∷ os) = fold-some x os

pub first_some-cons : {A : Type 0} (o : Option A) (os : List (Option A)) → first_some (o ∷ os) ≡ option_or o (first_some os)
first_some-cons None os = refl
first_some-cons (Some x) os = fold-some x os

pub first_some-append : {A : Type 0} (os ps : List (Option A)) → first_some (os ++ ps) ≡ option_or (first_some os) (first_some ps)
first_some-append [] ps = refl
first_some-append (o ∷ os) ps =
    first_some-cons o (os ++ ps) ∙ ap (option_or o) (first_some-append os ps) ∙ sym (or_or o (first_some os) (first_some ps)) ∙ rw (first_some-cons o os) refl

-- what comes of the elements from a place on, where the one at the place gives something
pub first_some-at : {X A : Type 0} (f : X → Option A) (xs : List X) (i : ℕ) (d : X) (z : A) → i < length xs → f (get_or xs i d) ≡ Some z → first_some (map f (drop i xs)) ≡ Some z
first_some-at f xs i d z h is = rw (drop_more xs i d h, is) (fold-some z (map f (drop (i + 1) xs)))

-- none of the first and the others
pub fold-none : {A : Type 0} (o : Option A) (os : List (Option A)) → fold option_or o os ≡ None → AreNone o (first_some os)
fold-none None os h = record { first = refl; second = h }
fold-none (Some x) os h = absurd (let e = fold-some x os in cc)
