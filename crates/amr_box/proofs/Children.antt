-- Cells and their children: which cell has a child that passes a test.
use Rattle.std.proofs.Common.{◌≡◌, ◌∙◌, ℕ, zero, suc, ◌<◌, Bool, true, ◌||◌, ◌⊎◌, inl, inr, ℤ, pos, ◌+ℤ◌, sym, ap, arith}
use Rattle.std.proofs.lemmas.Bool.{or_cases, or_left, or_right}
use Rattle.std.proofs.lemmas.Int.{ints}
use Rattle.amr_box.specs.declared.Cell.{Cell}
use Rattle.amr_box.specs.Cells.{child, half, has_child_where, parent}
use Rattle.amr_box.proofs.CellEquality.{same_cell}
use Rattle.amr_box.proofs.Halves.{half_is}

module _ (test : Cell → Bool) (c : Cell) where
  abbrev passes : ℕ → Bool
  passes k = test (child c k)

  pub child_passes : (k : ℕ) → k < 4 → test (child c k) ≡ true → has_child_where test c ≡ true
  child_passes zero few h = or_left _ (passes 3) (or_left _ (passes 2) (or_left (passes 0) (passes 1) h))
  child_passes (suc zero) few h = or_left _ (passes 3) (or_left _ (passes 2) (or_right (passes 0) (passes 1) h))
  child_passes (suc (suc zero)) few h = or_left _ (passes 3) (or_right _ (passes 2) h)
  child_passes (suc (suc (suc zero))) few h = or_right _ (passes 3) h
  child_passes (suc (suc (suc (suc k)))) few h = absurd (omega (arith, few))

  pub by_child : (P : Type 0) → ((k : ℕ) → k < 4 → test (child c k) ≡ true → P) → has_child_where test c ≡ true → P
  by_child P each h = from_four (or_cases _ (passes 3) h)
    where
      from_two : (passes 0 ≡ true) ⊎ (passes 1 ≡ true) → P
      from_two (inl e) = each 0 (omega arith) e
      from_two (inr e) = each 1 (omega arith) e

      from_three : ((passes 0 || passes 1) ≡ true) ⊎ (passes 2 ≡ true) → P
      from_three (inl e) = from_two (or_cases (passes 0) (passes 1) e)
      from_three (inr e) = each 2 (omega arith) e

      from_four : ((passes 0 || passes 1 || passes 2) ≡ true) ⊎ (passes 3 ≡ true) → P
      from_four (inl e) = from_three (or_cases (passes 0 || passes 1) (passes 2) e)
      from_four (inr e) = each 3 (omega arith) e

pub has_child_more : (f g : Cell → Bool) → ((c : Cell) → f c ≡ true → g c ≡ true) → (c : Cell) → has_child_where f c ≡ true → has_child_where g c ≡ true
has_child_more f g more c h = by_child f c (has_child_where g c ≡ true) (λ k few e. child_passes g c k few (more (child c k) e)) h

module _ (test : Cell → Bool) (q : Cell) (h : test q ≡ true) where
  is_child : (k : ℕ) → k < 4 → q.x ≡ (child (parent q) k).x → q.y ≡ (child (parent q) k).y → has_child_where test (parent q) ≡ true
  is_child k few x y = child_passes test (parent q) k few (sym (ap test (same_cell x y)) ∙ h)

  by_halves : (q.x ≡ half q.x +ℤ half q.x) ⊎ (q.x ≡ half q.x +ℤ half q.x +ℤ pos 1) → (q.y ≡ half q.y +ℤ half q.y) ⊎ (q.y ≡ half q.y +ℤ half q.y +ℤ pos 1) → has_child_where test (parent q) ≡ true
  by_halves (inl x) (inl y) = is_child 0 (omega arith) (omega (arith, ints, x)) (omega (arith, ints, y))
  by_halves (inr x) (inl y) = is_child 1 (omega arith) x (omega (arith, ints, y))
  by_halves (inl x) (inr y) = is_child 2 (omega arith) (omega (arith, ints, x)) y
  by_halves (inr x) (inr y) = is_child 3 (omega arith) x y

  -- a cell that passes a test makes its parent one with such a child
  pub child_of_parent : has_child_where test (parent q) ≡ true
  child_of_parent = by_halves (half_is q.x) (half_is q.y)
