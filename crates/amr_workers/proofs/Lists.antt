-- Two lists, element by element.
use Rattle.std.proofs.Common.{◌≡◌, ℕ, suc, ◌+◌, ◌<◌, ◌≤◌, List, [], ◌∷◌, ◌++◌, length, get_or, set, below_more, length-set, refl, sym, ◌∙◌, ap, subst, arith}
use Rattle.std.specs.List.{AllZip}
use Rattle.std.proofs.lemmas.List.{get_or-set_same, get_or-set_other, get_or_append_left, get_or_default, get_or_push}

module _ {X : Type 0} (R : X → X → Type 0) where
  -- of two lists, elements in turn
  zip_from : (xs ys : List X) → length xs ≡ length ys → ((k : ℕ) (d : X) → k < length xs → R (get_or xs k d) (get_or ys k d)) → AllZip R xs ys
  zip_from [] [] e h = tt
  zip_from [] (y ∷ ys) e h = absurd (omega (arith, e))
  zip_from (x ∷ xs) [] e h = absurd (omega (arith, e))
  zip_from (x ∷ xs) (y ∷ ys) e h = (h 0 x (omega arith), zip_from xs ys (omega (arith, e)) (λ k d l. h (suc k) d (omega (arith, l))))

  -- the elements below k are changed, and the others are as they were
  pub record AreChanged (old new : List X) (k : ℕ) : Type 0 where
    pub done : (i : ℕ) (d : X) → i < k → R (get_or old i d) (get_or new i d)
    pub rest : (i : ℕ) (d : X) → k ≤ i → get_or new i d ≡ get_or old i d
    pub long : length new ≡ length old

  pub none_changed : (xs : List X) → AreChanged xs xs 0
  none_changed xs = record { done = (λ i d lt. absurd (omega arith)); rest = (λ i d le. refl); long = refl }

  -- one more is changed
  pub one_changed : (old new : List X) (k : ℕ) (x y : X) → AreChanged old new k → k < length new → R (get_or new k x) y → AreChanged old (set new k y) (k + 1)
  one_changed old new k x y so_far small changed =
      let here : (d : X) → R (get_or old k d) (get_or (set new k y) k d)
      = λ d. subst (λ v. R v (get_or (set new k y) k d)) (get_or_default new k x d small ∙ so_far.rest k d (omega arith))
      (subst (λ v. R (get_or new k x) v) (sym (get_or-set_same new k y d small)) changed) in
      record {
        done = (λ i d lt. below_more (λ j. R (get_or old j d) (get_or (set new k y) j d)) k
            (λ j l. subst (λ v. R (get_or old j d) v) (sym (get_or-set_other new k j y d (λ e. omega arith))) (so_far.done j d l)) (here d) i lt);
        rest = (λ i d le. get_or-set_other new k i y d (λ e. omega arith) ∙ so_far.rest i d (omega arith));
        long = length-set new k y ∙ so_far.long;
      }

  -- all are changed
  pub all_changed : (old new : List X) (k : ℕ) → AreChanged old new k → length old ≤ k → AllZip R old new
  all_changed old new k so_far all = zip_from old new (sym so_far.long) (λ i d lt. so_far.done i d (omega arith))

  -- of two lists, all but the last elements, and the last ones
  zip_init : (xs ys : List X) (x y : X) → AllZip R (xs ++ x ∷ []) (ys ++ y ∷ []) → AllZip R xs ys × R x y
  zip_init [] [] x y h = (tt, h.0)
  zip_init [] (b ∷ []) x y h = absurd h.1
  zip_init [] (b ∷ c ∷ ys) x y h = absurd h.1
  zip_init (a ∷ []) [] x y h = absurd h.1
  zip_init (a ∷ c ∷ xs) [] x y h = absurd h.1
  zip_init (a ∷ xs) (b ∷ ys) x y h = let r = zip_init xs ys x y h.1 in ((h.0, r.0), r.1)

  pub zip_parts : (all xs : List X) (x : X) (ys : List X) (y : X) (whole : List X) → all ≡ xs ++ x ∷ [] → whole ≡ ys ++ y ∷ [] → AllZip R all whole → AllZip R xs ys × R x y
  zip_parts all xs x ys y whole is is' h =
      zip_init xs ys x y (subst (λ (l : List X). AllZip R (xs ++ x ∷ []) l) is' (subst (λ (l : List X). AllZip R l whole) is h))

-- elements that have their places as numbers, from 1 on, where one more comes
pub one_numbered : {X : Type 0} (number : X → ℕ) (xs : List X) (x : X) (n : ℕ) → length xs ≡ n → ((k : ℕ) (d : X) → k < n → number (get_or xs k d) ≡ 1 + k) → number x ≡ 1 + n → (k : ℕ) (d : X) → k < n + 1 → number (get_or (xs ++ x ∷ []) k d) ≡ 1 + k
one_numbered number xs x n count so_far last k d lt =
    below_more (λ j. number (get_or (xs ++ x ∷ []) j d) ≡ 1 + j) n (λ j l. ap number (get_or_append_left xs (x ∷ []) d j (omega (arith, l, count))) ∙ so_far j d l)
    (ap number (get_or_push xs x d n count) ∙ last) k lt
