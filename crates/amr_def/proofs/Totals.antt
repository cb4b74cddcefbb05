-- Sizes of what a row of the ledger counts: the mass of level 0, and what flows through its sides in a step.
use Rattle.std.proofs.Common.{◌≡◌, ℕ, zero, suc, ◌+◌, ◌*◌, ◌^◌, ◌<◌, ◌≤◌, ℤ, pos, negsuc, refl, sym, ap, subst, ◌∙◌, arith}
use Rattle.std.specs.Prelude.{unsigned_abs}
use Rattle.std.proofs.lemmas.Nat.{mul-le}
use Rattle.std.proofs.lemmas.Bool.Decides.{nat_tests}
use Rattle.std.proofs.Math.Nat.{le_of_mul-le-mul_left, mul-le-mul_right}
use Rattle.amr_box.specs.declared.Cell.{Cell}
use Rattle.amr_box.specs.declared.Face.{Face}
use Rattle.amr_box.specs.declared.Axis.{Axis}
use Rattle.amr_box.specs.declared.Axis.TheVariants.{X, Y}
use Rattle.amr_box.specs.Cells.{at_least_zero}
use Rattle.amr_def.specs.declared.problem.Problem.{Problem}
use Rattle.amr_def.specs.declared.problem.Sides.{Sides}
use Rattle.amr_def.specs.declared.problem.Sides.TheVariants.{Periodic, Open}
use Rattle.amr_def.specs.Domain.{domain, home_cell, columns, rows}
use Rattle.amr_def.specs.State.{Masses, mass_of}
use Rattle.amr_def.specs.Flux.{Fluxes, courant, courant_in, face, high_cell}
use Rattle.amr_def.specs.Ledger.{below_zero, if_open, inflow, mass_at, outflow, row_mass, sum_to, total_mass, x_through, y_through}
use Rattle.amr_def.specs.Facts.{growth}
use Rattle.amr_def.proofs.Courants.{stable}
use Rattle.amr_def.proofs.Raise.{Along, Flows, signed}

-- a sum of terms of at most b each
pub sum_within : (f : ℕ → ℕ) (b n : ℕ) → ((k : ℕ) → f k ≤ b) → sum_to f n ≤ n * b
sum_within f b zero h = omega arith
sum_within f b (suc n) h =
    let rest : sum_to f n ≤ n * b = sum_within f b n h in
    let last : f n ≤ b = h n in
    omega (arith, rest, last)

pub few_columns : (p : Problem) → columns p 0 ≤ 256
few_columns p = omega (arith, p.limits.greatest_nx)

pub few_rows : (p : Problem) → rows p 0 ≤ 256
few_rows p = omega (arith, p.limits.greatest_ny)

-- ---- the mass of level 0

-- where each mass is below 2^31, a row of at most 256 cells has at most 2^39
row_within : (p : Problem) (m : Masses) → ((c : Cell) → mass_of m c < 2 ^ 31) → (y : ℕ) → row_mass p m y ≤ 2 ^ 39
row_within p m small y =
    let most : row_mass p m y ≤ columns p 0 * 2 ^ 31 = sum_within (λ x. mass_at m x y) (2 ^ 31) (columns p 0) (λ x. omega (arith, small (record { x = pos x; y = pos y }))) in
    omega (arith, few_columns p, most)

-- and level 0 has at most 2^47
pub total_within : (p : Problem) (m : Masses) → ((c : Cell) → mass_of m c < 2 ^ 31) → total_mass p m ≤ 2 ^ 47
unfolding total_mass
total_within p m small =
    let most : total_mass p m ≤ rows p 0 * 2 ^ 39 = sum_within (λ y. row_mass p m y) (2 ^ 39) (rows p 0) (row_within p m small) in
    omega (arith, few_rows p, most)

-- ---- what flows through the sides

pub record IsSmallFluxes (e : Fluxes) : Type 0 where
  pub at : (f : Face) → unsigned_abs (e f) < 2 ^ 31

above_small : (z : ℤ) → unsigned_abs z < 2 ^ 31 → at_least_zero z ≤ 2 ^ 31
above_small (pos n) h = omega (arith, h)
above_small (negsuc n) h = omega arith

below_small : (z : ℤ) → unsigned_abs z < 2 ^ 31 → below_zero z ≤ 2 ^ 31
below_small (pos n) h = omega arith
below_small (negsuc n) h = omega (arith, h)

open_within : (s : Sides) (n b : ℕ) → n ≤ b → if_open s n ≤ b
open_within Periodic n b h = omega arith
open_within (Open low high) n b h = h

module _ (p : Problem) (e : Fluxes) (low high : ℤ → ℕ) (lows : (f : Face) → low (e f) ≤ 2 ^ 31) (highs : (f : Face) → high (e f) ≤ 2 ^ 31) where
  x_within : x_through p low high e ≤ 2 ^ 40
  x_within =
      let most : x_through p low high e ≤ rows p 0 * 2 ^ 32 = sum_within (λ y. low (e (face X (pos 0) (pos y))) + high (e (face X (pos (columns p 0)) (pos y)))) (2 ^ 32) (rows p 0)
      (λ y. omega (arith, lows (face X (pos 0) (pos y)), highs (face X (pos (columns p 0)) (pos y)))) in
      omega (arith, few_rows p, most)

  y_within : y_through p low high e ≤ 2 ^ 40
  y_within =
      let most : y_through p low high e ≤ columns p 0 * 2 ^ 32 = sum_within (λ x. low (e (face Y (pos x) (pos 0))) + high (e (face Y (pos x) (pos (rows p 0))))) (2 ^ 32) (columns p 0)
      (λ x. omega (arith, lows (face Y (pos x) (pos 0)), highs (face Y (pos x) (pos (rows p 0))))) in
      omega (arith, few_columns p, most)

-- what flows in, and out, in a step is at most 2^41
pub inflow_within : (p : Problem) (e : Fluxes) → IsSmallFluxes e → inflow p e ≤ 2 ^ 41
unfolding inflow
inflow_within p e small =
    let low = λ (f : Face). above_small (e f) (small.at f) in
    let high = λ (f : Face). below_small (e f) (small.at f) in
    let x = open_within p.x_sides _ (2 ^ 40) (x_within p e at_least_zero below_zero low high) in
    let y = open_within p.y_sides _ (2 ^ 40) (y_within p e at_least_zero below_zero low high) in
    omega (arith, x, y)

pub outflow_within : (p : Problem) (e : Fluxes) → IsSmallFluxes e → outflow p e ≤ 2 ^ 41
unfolding outflow
outflow_within p e small =
    let low = λ (f : Face). below_small (e f) (small.at f) in
    let high = λ (f : Face). above_small (e f) (small.at f) in
    let x = open_within p.x_sides _ (2 ^ 40) (x_within p e below_zero at_least_zero low high) in
    let y = open_within p.y_sides _ (2 ^ 40) (y_within p e below_zero at_least_zero low high) in
    omega (arith, x, y)

-- ---- the fluxes of a level whose values are bounded

pub number_small : (p : Problem) (l : ℕ) (a : Axis) (c : Cell) → unsigned_abs (courant_in p l a c) ≤ p.d
number_small p l X c = omega (arith, (stable p).within l c)
number_small p l Y c = omega (arith, (stable p).within l c)

pub courant_within : (p : Problem) (l : ℕ) (f : Face) → unsigned_abs (courant p l f) ≤ p.d
unfolding courant
courant_within p l f = number_small p l f.axis (home_cell (domain p l) (high_cell f))

size_of : (c : ℤ) (n : ℕ) → unsigned_abs (signed c n) ≡ n
size_of (pos a) n = refl
size_of (negsuc a) zero = refl
size_of (negsuc a) (suc n) = refl

-- a flux carries at most what the cell that it leaves may hold
along_within : (c : ℤ) (d w b : ℕ) (z : ℤ) → 0 < d → unsigned_abs c ≤ d → Along c d w b z → w * unsigned_abs z ≤ b
along_within c d w b z some small along =
    let n = along.size in
    let size : unsigned_abs z ≡ n = ap unsigned_abs along.is ∙ size_of c n in
    let less : unsigned_abs c * b ≤ d * b = mul-le-mul_right b small in
    let turned : d * (w * n) ≡ w * d * n = omega arith in
    let all : d * (w * n) ≤ d * b = omega (arith, turned, along.at_most, less) in
    subst (λ t. w * t ≤ b) (sym size) (le_of_mul-le-mul_left all some)

pub flux_within : (p : Problem) (l : ℕ) (m old : Masses) (b : ℕ) (e : Fluxes) → Flows p l m old b e → (f : Face) → 4 ^ l * unsigned_abs (e f) ≤ b
flux_within p l m old b e flows f = along_within (courant p l f) p.d (4 ^ l) b (e f) (stable p).some (courant_within p l f) (flows.along f)

-- ---- the bound of masses at the last step

pub growth_most : (m : ℕ) → growth m ≤ 131072
growth_most m = grind (arith, nat_tests)

-- after n steps, one more than the last one too
pub bound_small : (p : Problem) (n : ℕ) → n ≤ p.steps + 1 → 2 ^ 30 + growth p.max_level * (n + 1) < 2 ^ 31
bound_small p n h =
    let steps : n + 1 ≤ 4098 = omega (arith, h, p.limits.greatest_steps) in
    let grown : growth p.max_level * (n + 1) ≤ 131072 * 4098 = mul-le (growth p.max_level) (n + 1) 131072 4098 (growth_most p.max_level) steps in
    omega (arith, grown)
