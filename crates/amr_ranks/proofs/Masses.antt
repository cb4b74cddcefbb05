-- What is found at a cell is told by sums over the cells.
use Rattle.std.proofs.Common.{◌≡◌, ℕ, zero, suc, ◌+◌, ◌≤◌, cond, Bool, true, false, List, [], ◌∷◌, Some, None, refl, sym, ap, ◌∙◌, arith, add-one}
use Rattle.std.specs.Prelude.{Option}
use Rattle.amr_ranks.specs.declared.item.FrameCell.{FrameCell}
use Rattle.amr_ranks.specs.Items.{total, is_at, count_at, mass_at}
use Rattle.amr_ranks.proofs.Sums.{one_if}

-- a mass as a number: 0 where there is none, else the mass plus 1
abbrev code : Option ℕ → ℕ
code None = 0
code (Some m) = m + 1

abbrev coded : ℕ → Option ℕ
coded zero = None
coded (suc m) = Some m

coded_back : (o : Option ℕ) → o ≡ coded (code o)
coded_back None = refl
coded_back (Some m) = let e : m + 1 ≡ suc m = add-one m in sym (ap coded e)

module _ (patch slot : ℕ) where
  -- what a cell weighs where it is at the place
  abbrev weight : FrameCell → ℕ
  weight c = cond (is_at patch slot c) (c.mass + 1) 0

  no_weight : (cells : List FrameCell) → count_at patch slot cells ≡ 0 → total weight cells ≡ 0
  no_weight [] none = refl
  no_weight (c ∷ cells) none = by_test (is_at patch slot c) none (λ e. no_weight cells e)
    where
      by_test : (b : Bool) → one_if b + count_at patch slot cells ≡ 0 → (count_at patch slot cells ≡ 0 → total weight cells ≡ 0) → cond b (c.mass + 1) 0 + total weight cells ≡ 0
      by_test true e go = absurd (let f : 1 + count_at patch slot cells ≡ 0 = e in omega arith)
      by_test false e go = let k = go (let f : 0 + count_at patch slot cells ≡ 0 = e in omega arith) in let r : 0 + total weight cells ≡ 0 = omega arith in r

  mass_weight : (cells : List FrameCell) → count_at patch slot cells ≤ 1 → total weight cells ≡ code (mass_at patch slot cells)
  mass_weight [] le = refl
  mass_weight (c ∷ cells) le = by_test (is_at patch slot c) le (no_weight cells) (λ e. mass_weight cells e)
    where
      by_test : (b : Bool) → one_if b + count_at patch slot cells ≤ 1 → (count_at patch slot cells ≡ 0 → total weight cells ≡ 0) → (count_at patch slot cells ≤ 1 → total weight cells ≡ code (mass_at patch slot cells))
          → cond b (c.mass + 1) 0 + total weight cells ≡ code (cond b (Some c.mass) (mass_at patch slot cells))
      by_test true e none go = let k = none (let f : 1 + count_at patch slot cells ≤ 1 = e in omega arith) in let r : (c.mass + 1) + total weight cells ≡ c.mass + 1 = omega arith in r
      by_test false e none go = let k = go (let f : 0 + count_at patch slot cells ≤ 1 = e in omega arith) in let r : 0 + total weight cells ≡ code (mass_at patch slot cells) = omega arith in r

  -- lists of which each weight sums up alike have the same mass there
  pub mass_alike : (xs ys : List FrameCell) → ((h : FrameCell → ℕ) → total h xs ≡ total h ys) → count_at patch slot xs ≤ 1 → mass_at patch slot xs ≡ mass_at patch slot ys
  mass_alike xs ys same le =
      let count : count_at patch slot xs ≡ count_at patch slot ys = same (λ (c : FrameCell). one_if (is_at patch slot c)) in
      let a = mass_weight xs le in
      let b = mass_weight ys (omega arith) in
      let codes : code (mass_at patch slot xs) ≡ code (mass_at patch slot ys) = sym a ∙ (same weight ∙ b) in
      coded_back (mass_at patch slot xs) ∙ (ap coded codes ∙ sym (coded_back (mass_at patch slot ys)))
