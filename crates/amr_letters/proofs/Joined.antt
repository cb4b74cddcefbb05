-- Lists of cells that are joined: what they have at one slot of a patch, where only one of them has that slot.
use Rattle.std.proofs.Common.{◌≡◌, ◌≢◌, ◌∙◌, ℕ, zero, suc, ◌+◌, ◌<◌, ◌≤◌, cond, Bool, true, false, List, [], ◌∷◌, ◌++◌, inl, inr, refl, ap, arith}
use Rattle.std.specs.Prelude.{◌⊎◌}
use Rattle.std.specs.declared.option.Option.TheVariants.{None, Some}
use Rattle.std.specs.List.{flat_map, range_with_len}
use Rattle.std.proofs.lemmas.Bool.{cases_eq}
use Rattle.amr_ranks.specs.declared.item.FrameCell.{FrameCell}
use Rattle.amr_ranks.specs.Items.{count_at, is_at, mass_at}
use Rattle.amr_ranks.proofs.Sums.{one_if, total-append}

module _ (patch slot : ℕ) where
  count-append : (xs ys : List FrameCell) → count_at patch slot (xs ++ ys) ≡ count_at patch slot xs + count_at patch slot ys
  count-append xs ys = total-append (λ (c : FrameCell). one_if (is_at patch slot c)) xs ys

  -- where no cell is there, no mass is
  pub no_mass : (cells : List FrameCell) → count_at patch slot cells ≡ 0 → mass_at patch slot cells ≡ None
  no_mass [] none = refl
  no_mass (c ∷ cells) none = by_test (is_at patch slot c) none (λ e. no_mass cells e)
    where
      by_test : (b : Bool) → one_if b + count_at patch slot cells ≡ 0 → (count_at patch slot cells ≡ 0 → mass_at patch slot cells ≡ None) → cond b (Some c.mass) (mass_at patch slot cells) ≡ None
      by_test true e go = absurd (let f : 1 + count_at patch slot cells ≡ 0 = e in omega arith)
      by_test false e go = go (let f : 0 + count_at patch slot cells ≡ 0 = e in omega arith)

  mass_behind : (xs ys : List FrameCell) → count_at patch slot xs ≡ 0 → mass_at patch slot (xs ++ ys) ≡ mass_at patch slot ys
  mass_behind [] ys none = refl
  mass_behind (c ∷ xs) ys none = by_test (is_at patch slot c) none (λ e. mass_behind xs ys e)
    where
      by_test : (b : Bool) → one_if b + count_at patch slot xs ≡ 0 → (count_at patch slot xs ≡ 0 → mass_at patch slot (xs ++ ys) ≡ mass_at patch slot ys) → cond b (Some c.mass) (mass_at patch slot (xs ++ ys)) ≡ mass_at patch slot ys
      by_test true e go = absurd (let f : 1 + count_at patch slot xs ≡ 0 = e in omega arith)
      by_test false e go = go (let f : 0 + count_at patch slot xs ≡ 0 = e in omega arith)

  mass_before : (xs ys : List FrameCell) → count_at patch slot ys ≡ 0 → mass_at patch slot (xs ++ ys) ≡ mass_at patch slot xs
  mass_before [] ys none = no_mass ys none
  mass_before (c ∷ xs) ys none = ap (cond (is_at patch slot c) (Some c.mass)) (mass_before xs ys none)

  module _ (f : ℕ → List FrameCell) where
    -- none of the lists has a cell there
    pub none_there : (a n : ℕ) → ((i : ℕ) → a ≤ i → count_at patch slot (f i) ≡ 0) → count_at patch slot (flat_map f (range_with_len a n)) ≡ 0
    none_there a zero none = refl
    none_there a (suc n) none =
        let here = none a (omega arith) in
        let rest = none_there (a + 1) n (λ i le. none i (omega (arith, le))) in
        let both = count-append (f a) (flat_map f (range_with_len (a + 1) n)) in
        omega (arith, here, rest, both)

    -- only list j may have one
    pub one_there : (j a n : ℕ) → ((i : ℕ) → i ≢ j → count_at patch slot (f i) ≡ 0) → count_at patch slot (flat_map f (range_with_len a n)) ≤ count_at patch slot (f j)
    one_there j a zero none = omega arith
    one_there j a (suc n) none = by_case (cases_eq a j) (one_there j (a + 1) n none)
      where
        both : count_at patch slot (f a ++ flat_map f (range_with_len (a + 1) n)) ≡ count_at patch slot (f a) + count_at patch slot (flat_map f (range_with_len (a + 1) n))
        both = count-append (f a) (flat_map f (range_with_len (a + 1) n))

        by_case : (a ≡ j) ⊎ (a ≡ j → ⊥) → count_at patch slot (flat_map f (range_with_len (a + 1) n)) ≤ count_at patch slot (f j) → count_at patch slot (f a ++ flat_map f (range_with_len (a + 1) n)) ≤ count_at patch slot (f j)
        by_case (inl e) go =
            let rest = none_there (a + 1) n (λ i le. none i (λ g. (let r : ⊥ = omega (arith, le, e, g) in r))) in
            let same : count_at patch slot (f a) ≡ count_at patch slot (f j) = ap (λ i. count_at patch slot (f i)) e in
            let sum = both in
            omega (arith, rest, same, sum)
        by_case (inr ne) go =
            let here = none a ne in
            let sum = both in
            omega (arith, here, go, sum)

    -- the mass there is that of list j
    pub mass_there : (j a n : ℕ) → ((i : ℕ) → i ≢ j → count_at patch slot (f i) ≡ 0) → a ≤ j → j < a + n → mass_at patch slot (flat_map f (range_with_len a n)) ≡ mass_at patch slot (f j)
    mass_there j a zero none le lt = absurd (omega (arith, le, lt))
    mass_there j a (suc n) none le lt = by_case (cases_eq a j) (λ ne. mass_there j (a + 1) n none (omega (arith, le, ne)) (omega (arith, lt)))
      where
        by_case : (a ≡ j) ⊎ (a ≡ j → ⊥) → ((a ≡ j → ⊥) → mass_at patch slot (flat_map f (range_with_len (a + 1) n)) ≡ mass_at patch slot (f j)) → mass_at patch slot (f a ++ flat_map f (range_with_len (a + 1) n)) ≡ mass_at patch slot (f j)
        by_case (inl e) go =
            mass_before (f a) (flat_map f (range_with_len (a + 1) n)) (none_there (a + 1) n (λ i past. none i (λ g. (let r : ⊥ = omega (arith, past, e, g) in r))))
            ∙ ap (λ i. mass_at patch slot (f i)) e
        by_case (inr ne) go = mass_behind (f a) (flat_map f (range_with_len (a + 1) n)) (none a ne) ∙ go ne
