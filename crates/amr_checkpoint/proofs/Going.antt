-- What is stored lets a run go on, or refuses it.
use Rattle.std.proofs.Common.{◌≡◌, inl, inr, ⊎_elim, ℕ, zero, suc, ◌<◌, ◌≤◌, ◌∷◌, [], List, length, take, refl, sym, ◌∙◌, ap, arith, eqb, eqb-true, nat_le}
use Rattle.std.proofs.lemmas.Bool.{cases_Bool, leb-true, leb-false, eqb-false}
use Rattle.std.proofs.lemmas.Option.{same_Some}
use Rattle.std.specs.Prelude.{◌⊎◌, slice_get}
use Rattle.amr_checkpoint.specs.declared.refusal.Refusal.{Refusal}
use Rattle.amr_checkpoint.specs.declared.refusal.Refusal.TheVariants as refused
use Rattle.amr_checkpoint.specs.Contents.{Content, Empty, Damaged, Fresh, At}
use Rattle.amr_checkpoint.specs.Refusals.{CanShow, GoesOn, IsFirstDifference, IsOtherProblem, IsPast, RefusesRun, RefusesShow}

-- ---- where lists differ

earlier : (a b : List ℕ) (i j : ℕ) → i < j → take j a ≡ take j b → slice_get a i ≡ slice_get b i
earlier a b i zero below same = absurd (omega arith)
earlier [] [] i (suc j) below same = refl
earlier [] (y ∷ ys) i (suc j) below same = absurd (cc)
earlier (x ∷ xs) [] i (suc j) below same = absurd (cc)
earlier (x ∷ xs) (y ∷ ys) zero (suc j) below same = cc
earlier (x ∷ xs) (y ∷ ys) (suc i) (suc j) below same = earlier xs ys i j (omega arith) (cc)

pub one_difference : (a b : List ℕ) (i j : ℕ) → IsFirstDifference a b i → IsFirstDifference a b j → i ≡ j
one_difference a b i j h k = elim (cases_Bool (nat_le i j)) [
  | inl le ↦ elim (cases_Bool (nat_le j i)) [
    | inl ge ↦ omega (arith, leb-true i j le, leb-true j i ge)
    | inr lt ↦ absurd (h.differs (earlier a b i j (omega (arith, leb-false j i lt)) k.alike))
  ]
  | inr gt ↦ absurd (k.differs (earlier a b j i (omega (arith, leb-false i j gt)) h.alike))
]

pub no_difference : (a b : List ℕ) (place : ℕ) → a ≡ b → IsFirstDifference a b place → ⊥
no_difference a b place same h = h.differs (ap (λ (xs : List ℕ). slice_get xs place) same)

pub some_difference : (a b : List ℕ) → (a ≡ b) ⊎ ((place : ℕ) × IsFirstDifference a b place)
some_difference [] [] = inl refl
some_difference [] (y ∷ ys) = inr (0, record { alike = refl; differs = λ e. cc })
some_difference (x ∷ xs) [] = inr (0, record { alike = refl; differs = λ e. cc })
some_difference (x ∷ xs) (y ∷ ys) = elim (cases_Bool (eqb x y)) [
  | inl same ↦ ⊎_elim
      (λ rest. let head : x ≡ y = eqb-true x y same in inl (cc))
      (λ d. let head : x ≡ y = eqb-true x y same in let tail : take d.0 xs ≡ take d.0 ys = d.1.alike in inr (suc d.0, record { alike = cc; differs = d.1.differs }))
      (some_difference xs ys)
  | inr other ↦ inr (0, record { alike = refl; differs = λ e. eqb-false x y other (same_Some x y e) })
]

-- ---- refusals

other_problem : (kept bytes : List ℕ) → (kept ≡ bytes) ⊎ ((refusal : Refusal) × IsOtherProblem kept bytes refusal)
other_problem kept bytes =
    ⊎_elim (λ same. inl same)
    (λ d. inr (refused.WrongProblem (length kept) (length bytes) d.0, record { place = d.0; first = d.1; told = refl }))
    (some_difference kept bytes)

at_or_past : (kept bytes : List ℕ) (step target : ℕ) → (kept ≡ bytes) ⊎ ((refusal : Refusal) × IsOtherProblem kept bytes refusal)
    → ((kept ≡ bytes) × (step ≤ target)) ⊎ ((refusal : Refusal) × (IsOtherProblem kept bytes refusal ⊎ IsPast kept bytes step target refusal))
at_or_past kept bytes step target (inr other) = inr (other.0, inl other.1)
at_or_past kept bytes step target (inl same) = elim (cases_Bool (nat_le step target)) [
  | inl le ↦ inl (same, leb-true step target le)
  | inr gt ↦ inr (refused.Ahead step target, inr record { same = same; past = omega (arith, leb-false step target gt); told = refl })
]

pub goes_on_or_refuses : (bytes : List ℕ) (target : ℕ) (content : Content) → GoesOn bytes target content ⊎ ((refusal : Refusal) × RefusesRun bytes target content refusal)
goes_on_or_refuses bytes target Empty = inl tt
goes_on_or_refuses bytes target (Damaged damage) = inr (refused.Damaged damage, refl)
goes_on_or_refuses bytes target (Fresh kept p) = other_problem kept bytes
goes_on_or_refuses bytes target (At kept p s sequence) = at_or_past kept bytes s.step target (other_problem kept bytes)

pub not_other : (kept bytes : List ℕ) (refusal : Refusal) → kept ≡ bytes → IsOtherProblem kept bytes refusal → ⊥
not_other kept bytes refusal same h = no_difference kept bytes h.place same h.first

pub not_both : (bytes : List ℕ) (target : ℕ) (content : Content) (refusal : Refusal) → GoesOn bytes target content → RefusesRun bytes target content refusal → ⊥
not_both bytes target Empty refusal on refuses = refuses
not_both bytes target (Damaged damage) refusal on refuses = on
not_both bytes target (Fresh kept p) refusal on refuses = not_other kept bytes refusal on refuses
not_both bytes target (At kept p s sequence) refusal on (inl other) = not_other kept bytes refusal on.0 other
not_both bytes target (At kept p s sequence) refusal on (inr past) = let ahead = past.past in let up_to = on.1 in omega arith

same_other : (kept bytes : List ℕ) (a b : Refusal) → IsOtherProblem kept bytes a → IsOtherProblem kept bytes b → a ≡ b
same_other kept bytes a b h k = h.told ∙ ap (λ place. refused.WrongProblem (length kept) (length bytes) place) (one_difference kept bytes h.place k.place h.first k.first) ∙ sym k.told

pub refuses_once : (bytes : List ℕ) (target : ℕ) (content : Content) (a b : Refusal) → RefusesRun bytes target content a → RefusesRun bytes target content b → a ≡ b
refuses_once bytes target Empty a b h k = absurd h
refuses_once bytes target (Damaged damage) a b h k = h ∙ sym k
refuses_once bytes target (Fresh kept p) a b h k = same_other kept bytes a b h k
refuses_once bytes target (At kept p s sequence) a b (inl h) (inl k) = same_other kept bytes a b h k
refuses_once bytes target (At kept p s sequence) a b (inl h) (inr k) = absurd (not_other kept bytes a k.same h)
refuses_once bytes target (At kept p s sequence) a b (inr h) (inl k) = absurd (not_other kept bytes b h.same k)
refuses_once bytes target (At kept p s sequence) a b (inr h) (inr k) = h.told ∙ sym k.told

-- ---- what is shown

pub shows_or_refuses : (content : Content) → CanShow content ⊎ ((refusal : Refusal) × RefusesShow content refusal)
shows_or_refuses Empty = inr (refused.Empty, refl)
shows_or_refuses (Damaged damage) = inr (refused.Damaged damage, refl)
shows_or_refuses (Fresh kept p) = inr (refused.Empty, refl)
shows_or_refuses (At kept p s sequence) = inl tt

pub not_both_shown : (content : Content) (refusal : Refusal) → CanShow content → RefusesShow content refusal → ⊥
not_both_shown Empty refusal can refuses = can
not_both_shown (Damaged damage) refusal can refuses = can
not_both_shown (Fresh kept p) refusal can refuses = can
not_both_shown (At kept p s sequence) refusal can refuses = refuses
