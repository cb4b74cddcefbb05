-- The best of the places of a signature, one more place at a time.
use Rattle.std.proofs.Common.{◌≡◌, ℕ, ◌+◌, Bool, true, false, cond, List, [], ◌∷◌, ◌++◌, refl, sym, ap, ◌∙◌, arith, add-one}
use Rattle.std.specs.declared.option.Option.{Option}
use Rattle.std.specs.declared.option.Option.TheVariants.{None, Some}
use Rattle.std.specs.Option.{option_map}
use Rattle.std.specs.List.{filter, range_with_len}
use Rattle.std.proofs.lemmas.List.Elements.{filter-append}
use Rattle.std.proofs.lemmas.Grind.{fold-append}
use Rattle.amr_box.proofs.Numbers.{range_more}
use Rattle.amr_def.specs.Cut.{first_best}
use Rattle.amr_sign.specs.Scan.{challenged}

-- the best of a list, and of the list with one place more
first_best-append : {A : Type 0} (better : A → A → Bool) (xs : List A) (a : A) → first_best better (xs ++ a ∷ []) ≡ Some (challenged better (first_best better xs) a)
first_best-append better [] a = refl
first_best-append better (x ∷ xs) a = ap Some (fold-append (λ b c. cond (better c b) c b) x xs (a ∷ []))

-- the best of the places from 1 on that pass two tests
abbrev pub best_to : (ℕ → ℕ → Bool) → (ℕ → Bool) → (ℕ → Bool) → ℕ → Option ℕ
best_to better legal passes n = first_best better (filter passes (filter legal (range_with_len 1 n)))

abbrev pub next_best : (ℕ → ℕ → Bool) → Bool → Bool → Option ℕ → ℕ → Option ℕ
next_best better true true best i = Some (challenged better best i)
next_best better true false best i = best
next_best better false passes best i = best

kept_more : (legal passes : ℕ → Bool) (better : ℕ → ℕ → Bool) (ks : List ℕ) (i : ℕ) → first_best better (filter passes (filter legal (ks ++ i ∷ []))) ≡ next_best better (legal i) (passes i) (first_best better (filter passes (filter legal ks))) i
kept_more legal passes better ks i = rw filter-append (by_legal (legal i))
  where
    kept : List ℕ
    kept = filter passes (filter legal ks)

    none_more : (xs : List ℕ) → xs ++ [] ≡ xs
    none_more [] = refl
    none_more (x ∷ xs) = ap (λ (ys : List ℕ). x ∷ ys) (none_more xs)

    by_test : (t : Bool) → first_best better (kept ++ cond t (i ∷ []) []) ≡ next_best better true t (first_best better kept) i
    by_test true = first_best-append better kept i
    by_test false = ap (first_best better) (none_more kept)

    by_legal : (t : Bool) → first_best better (filter passes (filter legal ks ++ cond t (i ∷ []) [])) ≡ next_best better t (passes i) (first_best better kept) i
    by_legal true = ap (first_best better) (filter-append passes (filter legal ks) (i ∷ [])) ∙ by_test (passes i)
    by_legal false = ap (λ (xs : List ℕ). first_best better (filter passes xs)) (none_more (filter legal ks))

pub best_to-more : (better : ℕ → ℕ → Bool) (legal passes : ℕ → Bool) (n i : ℕ) → n + 1 ≡ i → best_to better legal passes i ≡ next_best better (legal i) (passes i) (best_to better legal passes n) i
best_to-more better legal passes n i e =
    rw (← e) (rw add-one (ap (λ (ks : List ℕ). first_best better (filter passes (filter legal ks))) (range_more 1 n) ∙ kept_more legal passes better (range_with_len 1 n) (1 + n) ∙ ap (λ (k : ℕ). next_best better (legal k) (passes k) (best_to better legal passes n) k) (omega arith)))

-- ---- a place that is not legal, one that does not pass, one that passes

next_best-barred : (better : ℕ → ℕ → Bool) (legal passes : Bool) (best : Option ℕ) (i : ℕ) → legal ≡ false → next_best better legal passes best i ≡ best
next_best-barred better true passes best i e = cc
next_best-barred better false passes best i e = refl

next_best-legal : (better : ℕ → ℕ → Bool) (legal passes : Bool) (best : Option ℕ) (i : ℕ) → legal ≡ true → next_best better legal passes best i ≡ cond passes (Some (challenged better best i)) best
next_best-legal better true true best i e = refl
next_best-legal better true false best i e = refl
next_best-legal better false passes best i e = cc

pub best_to-barred : (better : ℕ → ℕ → Bool) (legal passes : ℕ → Bool) (n i : ℕ) → n + 1 ≡ i → legal i ≡ false → best_to better legal passes i ≡ best_to better legal passes n
best_to-barred better legal passes n i e barred = best_to-more better legal passes n i e ∙ next_best-barred better (legal i) (passes i) (best_to better legal passes n) i barred

pub best_to-legal : (better : ℕ → ℕ → Bool) (legal passes : ℕ → Bool) (n i : ℕ) → n + 1 ≡ i → legal i ≡ true → best_to better legal passes i ≡ cond (passes i) (Some (challenged better (best_to better legal passes n) i)) (best_to better legal passes n)
best_to-legal better legal passes n i e inside = best_to-more better legal passes n i e ∙ next_best-legal better (legal i) (passes i) (best_to better legal passes n) i inside

-- the same where the places are seen through a function
challenged-map : {A B : Type 0} (f : A → B) (better : B → B → Bool) (best : Option A) (a : A) → challenged better (option_map f best) (f a) ≡ f (challenged (λ x y. better (f x) (f y)) best a)
challenged-map f better None a = refl
challenged-map f better (Some b) a = through (better (f a) (f b))
  where
    through : (t : Bool) → cond t (f a) (f b) ≡ f (cond t a b)
    through true = refl
    through false = refl

pub next-map : {A B : Type 0} (f : A → B) (better : B → B → Bool) (passes : Bool) (best : Option A) (a : A) → cond passes (Some (challenged better (option_map f best) (f a))) (option_map f best) ≡ option_map f (cond passes (Some (challenged (λ x y. better (f x) (f y)) best a)) best)
next-map f better true best a = ap Some (challenged-map f better best a)
next-map f better false best a = refl

-- ---- one turn of the loop over places

pub turn_barred : (better : ℕ → ℕ → Bool) (legal passes : ℕ → Bool) (n i j : ℕ) (best new : Option ℕ) → n + 1 ≡ i → j ≡ i → legal i ≡ false → new ≡ best → best ≡ best_to better legal passes n → new ≡ best_to better legal passes j
turn_barred better legal passes n i j best new e f barred same so_far =
    rw f (same ∙ so_far ∙ sym (best_to-barred better legal passes n i e barred))

pub turn_legal : (better : ℕ → ℕ → Bool) (legal passes : ℕ → Bool) (n i j : ℕ) (best new : Option ℕ) → n + 1 ≡ i → j ≡ i → legal i ≡ true → new ≡ cond (passes i) (Some (challenged better best i)) best → best ≡ best_to better legal passes n → new ≡ best_to better legal passes j
turn_legal better legal passes n i j best new e f inside is so_far =
    rw f (is ∙ ap (λ (o : Option ℕ). cond (passes i) (Some (challenged better o i)) o) so_far ∙ sym (best_to-legal better legal passes n i e inside))

module _ {B : Type 0} (seen : ℕ → B) (better : B → B → Bool) (legal passes : ℕ → Bool) where
  pub seen_barred : (n i j : ℕ) (best new : Option B) → n + 1 ≡ i → j ≡ i → legal i ≡ false → new ≡ best → best ≡ option_map seen (best_to (λ x y. better (seen x) (seen y)) legal passes n) → new ≡ option_map seen (best_to (λ x y. better (seen x) (seen y)) legal passes j)
  seen_barred n i j best new e f barred same so_far =
      rw f (same ∙ so_far ∙ ap (option_map seen) (sym (best_to-barred (λ x y. better (seen x) (seen y)) legal passes n i e barred)))

  pub seen_legal : (n i j : ℕ) (best new : Option B) → n + 1 ≡ i → j ≡ i → legal i ≡ true → new ≡ cond (passes i) (Some (challenged better best (seen i))) best → best ≡ option_map seen (best_to (λ x y. better (seen x) (seen y)) legal passes n) → new ≡ option_map seen (best_to (λ x y. better (seen x) (seen y)) legal passes j)
  seen_legal n i j best new e f inside is so_far =
      rw f (is ∙ ap (λ (o : Option B). cond (passes i) (Some (challenged better o (seen i))) o) so_far ∙ next-map seen better (passes i) (best_to (λ x y. better (seen x) (seen y)) legal passes n) i ∙ ap (option_map seen) (sym (best_to-legal (λ x y. better (seen x) (seen y)) legal passes n i e inside)))
