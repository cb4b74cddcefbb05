-- Masses of a level, summed span by span and row by row.
use Rattle.std.proofs.Common.{◌≡◌, ℕ, zero, suc, ◌+◌, ◌<◌, ◌≤◌, pos, ◌+ℤ◌, ◌-ℤ◌, false, ◌||◌, List, [], ◌∷◌, length, get_or, ap, ◌∙◌, arith}
use Rattle.std.specs.Prelude.{is_some}
use Rattle.std.proofs.lemmas.Int.{ints}
use Rattle.amr_box.specs.declared.Cell.{Cell}
use Rattle.amr_box.specs.Cells.{Extent, IsNear, at_least_zero, cell, height, in_boxes, width}
use Rattle.amr_patch.specs.BoxRows.{HasCellsOf, mass_in}
use Rattle.amr_def.specs.declared.problem.Problem.{Problem}
use Rattle.amr_def.specs.Domain.{columns, domain, domain_box, rows}
use Rattle.amr_def.specs.Ledger.{sum_to, total_mass}
use Rattle.amr_def.specs.State.{mass_of}
use Rattle.amr_patch.specs.declared.levels.Level.{Level}
use Rattle.amr_patch.specs.Levels.{level_of}
use Rattle.amr_start.proofs.Bases.{sum_to-same_below}

-- ---- sums

pub sum_split : (f : ℕ → ℕ) (a b : ℕ) → sum_to f a + sum_to (λ k. f (a + k)) b ≡ sum_to f (a + b)
sum_split f a zero = let same : a ≡ a + 0 = omega arith in let none : sum_to f a + 0 ≡ sum_to f a = omega arith in none ∙ ap (sum_to f) same
sum_split f a (suc b) =
    let same : suc (a + b) ≡ a + suc b = omega arith in
    let rest = sum_split f a b in
    let sum : sum_to f a + (sum_to (λ k. f (a + k)) b + f (a + b)) ≡ sum_to f (a + b) + f (a + b) = omega (arith, rest) in
    sum ∙ ap (sum_to f) same

-- a span after the columns before it
pub span_more : (f : ℕ → ℕ) (first sum part : ℕ) (masses : List ℕ) → sum ≡ sum_to f first → part ≡ sum_to (λ k. get_or masses k 0) (length masses) → ((k : ℕ) → k < length masses → get_or masses k 0 ≡ f (first + k)) → sum + part ≡ sum_to f (first + length masses)
span_more f first sum part masses is here at =
    (λ i. is i + here i)
    ∙ ap (λ n. sum_to f first + n) (sum_to-same_below (λ k. get_or masses k 0) (λ k. f (first + k)) (length masses) at)
    ∙ sum_split f first (length masses)

-- ---- the box of the domain

-- the cells of a level's only box
pub box_cells : (k : Level) (b : Extent) → ((c : Cell) → is_some ((level_of k).masses c) ≡ in_boxes (level_of k).boxes c) → (level_of k).boxes ≡ b ∷ [] → HasCellsOf k b
box_cells k b filled boxes = record { at = λ c held. filled c ∙ ap (λ (bs : List Extent). in_boxes bs c) boxes ∙ ap (λ t. t || false) held }

-- and the box itself
pub box_is : (bs : List Extent) (b e : Extent) → bs ≡ b ∷ [] → e ≡ get_or bs 0 e → e ≡ b
box_is bs b e boxes is = is ∙ ap (λ (bs : List Extent). get_or bs 0 e) boxes

module _ (p : Problem) where
  pub columns_0 : width (domain_box (domain p 0)) ≡ columns p 0
  columns_0 = let same : pos (columns p 0) -ℤ pos 1 +ℤ pos 1 -ℤ pos 0 ≡ pos (columns p 0) = omega (arith, ints) in ap at_least_zero same

  pub rows_0 : height (domain_box (domain p 0)) ≡ rows p 0
  rows_0 = let same : pos (rows p 0) -ℤ pos 1 +ℤ pos 1 -ℤ pos 0 ≡ pos (rows p 0) = omega (arith, ints) in ap at_least_zero same

  pub narrow : width (domain_box (domain p 0)) ≤ 256
  narrow = omega (arith, columns_0, p.limits.greatest_nx)

  pub flat : height (domain_box (domain p 0)) ≤ 256
  flat = omega (arith, rows_0, p.limits.greatest_ny)

  pub near : IsNear (domain_box (domain p 0))
  near = record {
    west = omega (arith, ints);
    east = omega (arith, ints, p.limits.greatest_nx);
    south = omega (arith, ints);
    north = omega (arith, ints, p.limits.greatest_ny);
    wide = omega (arith, ints, p.limits.least_nx);
    high = omega (arith, ints, p.limits.least_ny);
  }

  from_zero : (i : ℕ) → pos 0 +ℤ pos i ≡ pos i
  from_zero i = omega (arith, ints)

  pub total_is : (k : Level) (b : Extent) → b ≡ domain_box (domain p 0) → sum_to (λ j. sum_to (mass_in k b j) (width b)) (height b) ≡ total_mass p (level_of k).masses
  unfolding total_mass
  total_is k b is =
      ap (λ (b : Extent). sum_to (λ j. sum_to (mass_in k b j) (width b)) (height b)) is
      ∙ (λ t. sum_to (λ j. sum_to (mass_in k (domain_box (domain p 0)) j) (columns_0 t)) (rows_0 t))
      ∙ (λ t. sum_to (λ j. sum_to (λ i. mass_of (level_of k).masses (cell (from_zero i t) (from_zero j t))) (columns p 0)) (rows p 0))
