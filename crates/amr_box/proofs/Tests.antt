-- Tests that are true at once, or never together.
use Rattle.std.proofs.Common.{◌≡◌, Bool, true, false, ◌&&◌, ◌||◌, ◌⊎◌, inl, inr, refl, sym}
use Rattle.std.proofs.lemmas.Bool.{both_ways}

pub same_test : (a b : Bool) → (a ≡ true → b ≡ true) → (b ≡ true → a ≡ true) → a ≡ b
same_test true b there back = sym (there refl)
same_test false true there back = back refl
same_test false false there back = refl

-- ---- both of two tests

pub and_shared : (a b c : Bool) → ((a && b) || (a && c)) ≡ (a && (b || c))
and_shared true b c = refl
and_shared false b c = refl

pub and_either : (a b c : Bool) → a ≡ true → (b ≡ true) ⊎ (c ≡ true) → (a && (b || c)) ≡ true
and_either true true c e h = refl
and_either true false c e (inl h) = absurd (cc)
and_either true false c e (inr h) = h
and_either false b c e h = e

pub and_turned : (a b c : Bool) → ((a && b) && c) ≡ (b && (a && c))
and_turned true true c = refl
and_turned true false c = refl
and_turned false true c = refl
and_turned false false c = refl

pub and_apart : (a b : Bool) → (a ≡ true → b ≡ false) → (a && b) ≡ false
and_apart true b h = h refl
and_apart false b h = refl

pub and_never : (a b : Bool) → (a ≡ true → b ≡ true → ⊥) → (a && b) ≡ false
and_never true true h = absurd (h refl refl)
and_never true false h = refl
and_never false b h = refl

-- ---- one of several tests

pub or_swapped : (a b c d : Bool) → ((a || b) || (c || d)) ≡ ((a || c) || (b || d))
or_swapped true b c d = refl
or_swapped false true true d = refl
or_swapped false true false d = refl
or_swapped false false true d = refl
or_swapped false false false d = refl

pub or_last : (a b : Bool) → (a || b) ≡ true → a ≡ false → b ≡ true
or_last true b h e = absurd (cc)
or_last false b h e = h

pub opposite : {a : Bool} → a ≡ true → a ≡ false → ⊥
opposite is isnt = both_ways _ isnt is
