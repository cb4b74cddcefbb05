-- A cut leaves at least one column or row on each side, so that each part of a set has fewer cells.
use Rattle.std.proofs.Common.{◌≡◌, ℕ, zero, suc, ◌+◌, ◌-◌, ◌*◌, ◌/◌, ◌<◌, ◌≤◌, Bool, true, false, cond, List, [], ◌∷◌, length, refl, arith}
use Rattle.std.specs.Prelude.{nat_lt, nat_le}
use Rattle.std.specs.declared.option.Option.{Option}
use Rattle.std.specs.declared.option.Option.TheVariants.{None, Some}
use Rattle.std.specs.List.{filter, fold, range_with_len}
use Rattle.std.proofs.lemmas.Bool.Decides.{nat_tests}
use Rattle.amr_box.specs.declared.Axis.{Axis}
use Rattle.amr_box.specs.declared.Axis.TheVariants.{X, Y}
use Rattle.amr_def.specs.Cut.{Cut, best_cut, best_hole, best_inflection, cut_in_order, cut_on, first_best, holes, inflections, jump, legal_places, middle, or_else, sharper_of}

-- ---- places

-- an entry of a signature with one before it
abbrev pub IsPlace : List ℕ → ℕ → Type 0
IsPlace s i = (1 ≤ i) × (i < length s)

abbrev EachPlace : (ℕ → Type 0) → List ℕ → Type 0
EachPlace P [] = Unit {0}
EachPlace P (i ∷ is) = P i × EachPlace P is

abbrev OnPlace : (ℕ → Type 0) → Option ℕ → Type 0
OnPlace P None = Unit {0}
OnPlace P (Some i) = P i

abbrev pub OnCut : (Cut → Type 0) → Option Cut → Type 0
OnCut P None = Unit {0}
OnCut P (Some k) = P k

places_kept : (P : ℕ → Type 0) (test : ℕ → Bool) (is : List ℕ) → EachPlace P is → EachPlace P (filter test is)
places_kept P test [] e = tt
places_kept P test (i ∷ is) e = kept (test i) (places_kept P test is e.1)
  where
    kept : (t : Bool) → EachPlace P (filter test is) → EachPlace P (cond t (i ∷ filter test is) (filter test is))
    kept true r = (e.0, r)
    kept false r = r

range_places : (P : ℕ → Type 0) (a n : ℕ) → ((i : ℕ) → a ≤ i → i < a + n → P i) → EachPlace P (range_with_len a n)
range_places P a zero h = tt
range_places P a (suc n) h = (h a (omega arith) (omega arith), range_places P (a + 1) n (λ i from to. h i (omega arith) (omega arith)))

fold_place : (P : ℕ → Type 0) (better : ℕ → ℕ → Bool) (a : ℕ) (is : List ℕ) → P a → EachPlace P is → P (fold (λ b c. cond (better c b) c b) a is)
fold_place P better a [] p e = p
fold_place P better a (i ∷ is) p e = fold_place P better (cond (better i a) i a) is (chosen (better i a)) e.1
  where
    chosen : (t : Bool) → P (cond t i a)
    chosen true = e.0
    chosen false = p

best_place : (P : ℕ → Type 0) (better : ℕ → ℕ → Bool) (is : List ℕ) → EachPlace P is → OnPlace P (first_best better is)
best_place P better [] e = tt
best_place P better (i ∷ is) e = fold_place P better i is e.0 e.1

legal : (w : ℕ) (s : List ℕ) → EachPlace (IsPlace s) (legal_places w s)
legal w s = places_kept (IsPlace s) _ (range_with_len 1 (length s - 1)) (range_places (IsPlace s) 1 (length s - 1) (λ i from to. (from, omega arith)))

hole_place : (w : ℕ) (s : List ℕ) → OnPlace (IsPlace s) (best_hole w s)
hole_place w s = best_place (IsPlace s) _ (holes w s) (places_kept (IsPlace s) _ (legal_places w s) (legal w s))

inflection_place : (w : ℕ) (s : List ℕ) → OnPlace (IsPlace s) (best_inflection w s)
inflection_place w s = best_place (IsPlace s) _ (inflections w s) (places_kept (IsPlace s) _ (legal_places w s) (legal w s))

middle_place : (w : ℕ) (s : List ℕ) → 1 ≤ w → OnPlace (IsPlace s) (middle w s)
middle_place w s least = choose (nat_le (2 * w) (length s)) refl
  where
    choose : (t : Bool) → nat_le (2 * w) (length s) ≡ t → OnPlace (IsPlace s) (cond t (Some (length s / 2)) None)
    choose true e = let wide : 2 * w ≤ length s = grind (arith, nat_tests) in (omega arith, omega arith)
    choose false e = tt

-- ---- cuts

module _ (P : Cut → Type 0) where
  on_cut : (a : Axis) (s : List ℕ) → ((i : ℕ) → IsPlace s i → P (record { axis = a; at = i })) → (o : Option ℕ) → OnPlace (IsPlace s) o → OnCut P (cut_on a o)
  on_cut a s h None e = tt
  on_cut a s h (Some i) e = h i e

  or_cut : (a b : Option Cut) → OnCut P a → OnCut P b → OnCut P (or_else a b)
  or_cut None b p q = q
  or_cut (Some k) b p q = p

  sharper_cut : (a b : Axis) (s t : List ℕ) → ((i : ℕ) → IsPlace s i → P (record { axis = a; at = i })) → ((i : ℕ) → IsPlace t i → P (record { axis = b; at = i })) → (i j : Option ℕ) → OnPlace (IsPlace s) i → OnPlace (IsPlace t) j → OnCut P (sharper_of a s i b t j)
  sharper_cut a b s t h g None None d e = tt
  sharper_cut a b s t h g None (Some j) d e = g j e
  sharper_cut a b s t h g (Some i) None d e = h i d
  sharper_cut a b s t h g (Some i) (Some j) d e = choose (nat_lt (jump s i) (jump t j))
    where
      choose : (c : Bool) → OnCut P (cond c (Some (record { axis = b; at = j })) (Some (record { axis = a; at = i })))
      choose true = g j e
      choose false = h i d

  in_order : (w : ℕ) (a b : Axis) (s t : List ℕ) → 1 ≤ w → ((i : ℕ) → IsPlace s i → P (record { axis = a; at = i })) → ((i : ℕ) → IsPlace t i → P (record { axis = b; at = i })) → OnCut P (cut_in_order w a s b t)
  in_order w a b s t least h g =
      or_cut _ _
      (or_cut _ _ (on_cut a s h (best_hole w s) (hole_place w s)) (on_cut b t g (best_hole w t) (hole_place w t)))
      (or_cut _ _ (sharper_cut a b s t h g (best_inflection w s) (best_inflection w t) (inflection_place w s) (inflection_place w t)) (on_cut a s h (middle w s) (middle_place w s least)))

-- the signature along the axis of a cut
abbrev pub counts_along : Axis → List ℕ → List ℕ → List ℕ
counts_along X xs ys = xs
counts_along Y xs ys = ys

pub cut_place : (w : ℕ) (xs ys : List ℕ) → 1 ≤ w → OnCut (λ k. IsPlace (counts_along k.axis xs ys) k.at) (best_cut w xs ys)
unfolding best_cut
cut_place w xs ys least = choose (nat_le (length ys) (length xs))
  where
    choose : (t : Bool) → OnCut (λ k. IsPlace (counts_along k.axis xs ys) k.at) (cond t (cut_in_order w X xs Y ys) (cut_in_order w Y ys X xs))
    choose true = in_order (λ k. IsPlace (counts_along k.axis xs ys) k.at) w X Y xs ys least (λ i h. h) (λ i h. h)
    choose false = in_order (λ k. IsPlace (counts_along k.axis xs ys) k.at) w Y X ys xs least (λ i h. h) (λ i h. h)
