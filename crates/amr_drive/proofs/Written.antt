-- A list of which each element is written in turn.
use Rattle.std.proofs.Common.{◌≡◌, ◌∙◌, ◌⊎◌, inl, inr, ℕ, ◌+◌, ◌<◌, ◌≤◌, sym, subst, List, [], ◌∷◌, ◌++◌, length, get_or, set, refl, arith}
use Rattle.std.proofs.lemmas.Bool.{cases_eq}
use Rattle.std.proofs.lemmas.List.{get_or_append_left, get_or_default, get_or_push, get_or-set_other, get_or-set_same}

-- below k stands what is wanted, and from k on what was
pub record WrittenTo {X : Type 0} (Wanted : ℕ → X → X → Type 0) (olds xs : List X) (k : ℕ) : Type 0 where
  pub done : (j : ℕ) (d : X) → j < k → Wanted j d (get_or xs j d)
  pub left : (j : ℕ) (d : X) → k ≤ j → get_or xs j d ≡ get_or olds j d

pub none_written : {X : Type 0} (Wanted : ℕ → X → X → Type 0) (olds : List X) → WrittenTo Wanted olds olds 0
none_written Wanted olds = record { done = λ j d lt. absurd (omega (arith, lt)); left = λ j d le. refl }

-- one more
pub one_written : {X : Type 0} (Wanted : ℕ → X → X → Type 0) (olds xs : List X) (k : ℕ) (y : X) → k < length xs → ((d : X) → Wanted k d y) → WrittenTo Wanted olds xs k
    → WrittenTo Wanted olds (set xs k y) (k + 1)
one_written {X} Wanted olds xs k y inside wanted h = record { done = done; left = left }
  where
    done : (j : ℕ) (d : X) → j < k + 1 → Wanted j d (get_or (set xs k y) j d)
    done j d lt = from (cases_eq j k)
      where
        from : ((j ≡ k) ⊎ (j ≡ k → ⊥)) → Wanted j d (get_or (set xs k y) j d)
        from (inl same) = subst (λ m. Wanted m d (get_or (set xs k y) m d)) (sym same) (subst (Wanted k d) (sym (get_or-set_same xs k y d inside)) (wanted d))
        from (inr other) = subst (Wanted j d) (sym (get_or-set_other xs k j y d other)) (h.done j d (omega arith))

    left : (j : ℕ) (d : X) → k + 1 ≤ j → get_or (set xs k y) j d ≡ get_or olds j d
    left j d le = get_or-set_other xs k j y d (omega arith) ∙ h.left j d (omega arith)

-- the next one as it was
pub still_there : {X : Type 0} (Wanted : ℕ → X → X → Type 0) (olds xs : List X) (k : ℕ) (x : X) → k < length olds → WrittenTo Wanted olds xs k → (d : X) → get_or xs k x ≡ get_or olds k d
still_there Wanted olds xs k x inside h d = h.left k x (omega arith) ∙ get_or_default olds k x d inside

-- ---- a list that is made by pushes

pub one_pushed : {X : Type 0} (Wanted : ℕ → X → Type 0) (xs : List X) (x : X) (n : ℕ) → length xs ≡ n → ((j : ℕ) (d : X) → j < n → Wanted j (get_or xs j d)) → Wanted n x
    → (j : ℕ) (d : X) → j < n + 1 → Wanted j (get_or (xs ++ x ∷ []) j d)
one_pushed {X} Wanted xs x n count h new j d lt = from (cases_eq j n)
  where
    from : ((j ≡ n) ⊎ (j ≡ n → ⊥)) → Wanted j (get_or (xs ++ x ∷ []) j d)
    from (inl same) =
        subst (λ m. Wanted m (get_or (xs ++ x ∷ []) m d)) (sym same) (subst (Wanted n) (sym (get_or_push xs x d n count)) new)
    from (inr other) =
        let before : j < n = omega (arith, lt, other) in
        subst (Wanted j) (sym (get_or_append_left xs (x ∷ []) d j (omega (arith, before, count)))) (h j d before)
