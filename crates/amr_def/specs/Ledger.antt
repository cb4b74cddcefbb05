-- The ledger: the mass of level 0, and what flowed in a step through the open sides of the domain.
use Rattle.std.specs.Prelude.{ℕ, zero, suc, ◌+◌, ℤ, pos, negsuc, List, [], ◌∷◌}
use Rattle.amr_box.specs.declared.Axis.TheVariants.{X, Y}
use Rattle.amr_box.specs.Cells.{at_least_zero, cell}
use Rattle.amr_def.specs.declared.problem.Problem.{Problem}
use Rattle.amr_def.specs.declared.problem.Row.{Row}
use Rattle.amr_def.specs.declared.problem.Sides.{Sides}
use Rattle.amr_def.specs.declared.problem.Sides.TheVariants.{Periodic, Open}
use Rattle.amr_def.specs.Domain.{columns, rows}
use Rattle.amr_def.specs.State.{Masses, no_masses, mass_of}
use Rattle.amr_def.specs.Flux.{Fluxes, face}
use Rattle.amr_def.specs.LevelStep.{Stepped}

-- f 0 + f 1 + .., n terms
abbrev pub sum_to : (ℕ → ℕ) → ℕ → ℕ
sum_to f zero = 0
sum_to f (suc n) = sum_to f n + f n

abbrev pub mass_at : Masses → ℕ → ℕ → ℕ
mass_at m x y = mass_of m (cell (pos x) (pos y))

abbrev pub row_mass : Problem → Masses → ℕ → ℕ
row_mass p m y = sum_to (λ x. mass_at m x y) (columns p 0)

-- the mass of level 0
unfoldable pub total_mass : Problem → Masses → ℕ
total_mass p m = sum_to (λ y. row_mass p m y) (rows p 0)

-- ---- flow through open sides

abbrev pub below_zero : ℤ → ℕ
below_zero (pos n) = 0
below_zero (negsuc n) = suc n

abbrev pub if_open : Sides → ℕ → ℕ
if_open Periodic n = 0
if_open (Open low high) n = n

-- the sum over the ends of the x axis, of the flow through the low end by `low` and of that through
-- the high end by `high`
abbrev pub x_through : Problem → (ℤ → ℕ) → (ℤ → ℕ) → Fluxes → ℕ
x_through p low high e = sum_to (λ y. low (e (face X (pos 0) (pos y))) + high (e (face X (pos (columns p 0)) (pos y)))) (rows p 0)

abbrev pub y_through : Problem → (ℤ → ℕ) → (ℤ → ℕ) → Fluxes → ℕ
y_through p low high e = sum_to (λ x. low (e (face Y (pos x) (pos 0))) + high (e (face Y (pos x) (pos (rows p 0))))) (columns p 0)

-- what flows into the domain, and out of it
unfoldable pub inflow : Problem → Fluxes → ℕ
inflow p e = if_open p.x_sides (x_through p at_least_zero below_zero e) + if_open p.y_sides (y_through p at_least_zero below_zero e)

unfoldable pub outflow : Problem → Fluxes → ℕ
outflow p e = if_open p.x_sides (x_through p below_zero at_least_zero e) + if_open p.y_sides (y_through p below_zero at_least_zero e)

-- ---- rows

abbrev pub first_of : List Masses → Masses
first_of [] = no_masses
first_of (m ∷ ms) = m

-- the row of a step of all levels
abbrev pub row_after : Problem → Stepped → Row
row_after p r = record { mass = total_mass p (first_of r.levels); inflow = inflow p r.fluxes; outflow = outflow p r.fluxes }
