-- Pieces in slots, as lists.
use Rattle.std.proofs.Common.{◌≡◌, ℕ, zero, suc, ◌<◌, List, [], ◌∷◌, ◌++◌, length, map, reverse, take, Some, None, refl, sym, ap, ◌∙◌, arith}
use Rattle.std.specs.Prelude.{Option, All, IsSome}
use mathlib.Core.List.{reverse_aux}
use mathlib.Core.Option.{some, some-injective}
use lib.ListN.{get_elem?}

-- a map and a reversal may change places
pub reverse_map : {X Y : Type 0} (f : X → Y) (xs : List X) → map f (reverse xs) ≡ reverse (map f xs)
reverse_map f xs = onto f xs []
  where
    onto : {X Y : Type 0} (f : X → Y) (xs ys : List X) → map f (reverse_aux xs ys) ≡ reverse_aux (map f xs) (map f ys)
    onto f [] ys = refl
    onto f (x ∷ xs) ys = onto f xs (x ∷ ys)

pub front : {X : Type 0} (xs ys : List X) → take (length xs) (xs ++ ys) ≡ xs
front [] ys = refl
front (x ∷ xs) ys = ap (λ l. x ∷ l) (front xs ys)

pub empty_list : {X : Type 0} (xs : List X) → length xs ≡ 0 → xs ≡ []
empty_list [] e = refl
empty_list (x ∷ xs) e = absurd (omega arith)

abbrev pieces_of : {P : Type 0} → List (Option P) → List P
pieces_of [] = []
pieces_of (Some x ∷ os) = x ∷ pieces_of os
pieces_of (None ∷ os) = pieces_of os

module _ {P : Type 0} where
  pieces_are : (xs : List P) → pieces_of (map Some xs) ≡ xs
  pieces_are [] = refl
  pieces_are (x ∷ xs) = ap (λ l. x ∷ l) (pieces_are xs)

  pub same_pieces : (xs ys : List P) → map Some xs ≡ map Some ys → xs ≡ ys
  same_pieces xs ys e = sym (pieces_are xs) ∙ (ap pieces_of e ∙ pieces_are ys)

  pub all_full : (xs : List P) → All IsSome (map Some xs)
  all_full [] k d lt = absurd (omega arith)
  all_full (x ∷ xs) zero d lt = refl
  all_full (x ∷ xs) (suc k) d lt = all_full xs k d (let r : suc k < suc (length (map Some xs)) = lt in omega arith)

  -- slots that hold these pieces, each at its place, and no more
  pub slots_are : (os : List (Option P)) (xs : List P) → length os ≡ length xs → ((t : ℕ) (x : P) → get_elem? xs t ≡ some x → get_elem? os t ≡ some (Some x)) → os ≡ map Some xs
  slots_are [] [] count each = refl
  slots_are [] (x ∷ xs) count each = absurd (omega arith)
  slots_are (o ∷ os) [] count each = absurd (omega arith)
  slots_are (o ∷ os) (x ∷ xs) count each =
      let first : o ≡ Some x = some-injective o (Some x) (each 0 x refl) in
      let others : os ≡ map Some xs = slots_are os xs (omega arith) (λ t y e. each (suc t) y e) in ap (λ y. y ∷ os) first ∙ ap (λ l. Some x ∷ l) others
