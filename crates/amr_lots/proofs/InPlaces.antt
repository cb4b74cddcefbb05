-- A list gone over place by place, where each item is changed once.
use Rattle.std.proofs.Common.{◌≡◌, ◌⊎◌, inl, inr, ℕ, ◌+◌, ◌<◌, ◌≤◌, List, length, get_or, set, refl, sym, subst, ◌∙◌, arith}
use Rattle.std.specs.List.{AllZip}
use Rattle.std.proofs.Math.ListN.{length-set}
use Rattle.std.proofs.lemmas.Bool.{cases_eq}
use Rattle.std.proofs.lemmas.List.{get_or-set_other, get_or-set_same, get_or_default}
use Rattle.amr_register.proofs.EdgeLists.{zip_from}

-- the items before place n were changed
pub record AreChangedTo {X : Type 0} (R : ℕ → X → X → Type 0) (n : ℕ) (xs ys : List X) : Type 0 where
  pub count : length ys ≡ length xs
  pub done : (j : ℕ) (x : X) → j < n → R j (get_or xs j x) (get_or ys j x)
  pub rest : (j : ℕ) (x : X) → n ≤ j → get_or ys j x ≡ get_or xs j x

module _ {X : Type 0} (R : ℕ → X → X → Type 0) (xs : List X) where
  pub none_changed : AreChangedTo R 0 xs xs
  none_changed = record { count = refl; done = λ j x lt. absurd (omega (arith, lt)); rest = λ j x le. refl }

  module _ (n : ℕ) (ys : List X) (changed : AreChangedTo R n xs ys) where
    -- the item at the next place, whatever it is named by
    pub item_here : (a x : X) → n < length xs → get_or ys n a ≡ get_or xs n x
    item_here a x lt = changed.rest n a (omega arith) ∙ get_or_default xs n a x lt

    pub one_more_changed : (a b : X) → n < length xs → R n (get_or ys n a) b → AreChangedTo R (n + 1) xs (set ys n b)
    one_more_changed a b lt h = record {
      count = length-set ys n b ∙ changed.count;
      done = λ j x below. each j x below (cases_eq j n);
      rest = λ j x le. get_or-set_other ys n j b x (λ e. omega (arith, e, le)) ∙ changed.rest j x (omega (arith, le));
    }
      where
        here : (x : X) → R n (get_or xs n x) (get_or (set ys n b) n x)
        here x =
            subst (λ y. R n y (get_or (set ys n b) n x)) (item_here a x lt)
            (subst (λ y. R n (get_or ys n a) y) (sym (get_or-set_same ys n b x (omega (arith, lt, changed.count)))) h)

        each : (j : ℕ) (x : X) → j < n + 1 → ((j ≡ n) ⊎ (j ≡ n → ⊥)) → R j (get_or xs j x) (get_or (set ys n b) j x)
        each j x below (inl e) = subst (λ i. R i (get_or xs i x) (get_or (set ys n b) i x)) (sym e) (here x)
        each j x below (inr other) = subst (λ y. R j (get_or xs j x) y) (sym (get_or-set_other ys n j b x other)) (changed.done j x (omega (arith, below, other)))

    -- after the last
    pub each_changed : length xs ≤ n → (k : ℕ) (x : X) → k < length xs → R k (get_or xs k x) (get_or ys k x)
    each_changed whole k x lt = changed.done k x (omega (arith, lt, whole))

    pub all_changed : (S : X → X → Type 0) → ((k : ℕ) (x y : X) → R k x y → S x y) → length xs ≤ n → AllZip S xs ys
    all_changed S from whole = zip_from S xs ys changed.count (λ k d e lt. from k (get_or xs k d) (get_or ys k e) (subst (λ y. R k (get_or xs k d) y) (get_or_default ys k d e (omega (arith, lt, changed.count))) (changed.done k d (omega (arith, lt, whole)))))
