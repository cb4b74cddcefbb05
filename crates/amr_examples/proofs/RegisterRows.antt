-- Worked rows of registers: a ring of 4 by 2 cells, whose cell (2, 0) is covered.
use Rattle.std.proofs.Common.{◌≡◌, false, true, pos, negsuc, ◌-ℤ◌, refl, [], ◌∷◌, map}
use Rattle.amr_box.specs.declared.Axis.TheVariants.{X, Y}
use Rattle.amr_def.specs.Domain.{domain, in_domain}
use Rattle.amr_def.specs.Flux.{courant, face, flux_at, net, updated}
use Rattle.amr_def.specs.LevelStep.{at_top, effective, over_finer, step, step_within}
use Rattle.amr_def.specs.State.{is_covered, no_masses}
use Rattle.amr_def.specs.Value.{inflow_at, value_at}
use Rattle.amr_examples.proofs.Examples.{at, edge_coarse, edge_fine, edged}
use Rattle.amr_register.specs.CoarseFlows.{edge_flows}
use Rattle.amr_register.specs.RegisterCells.{is_coarse_fine, is_register_cell, register_cells}

-- the cells left and right of it, and the one that is both below and above it
cells_beside : register_cells edged 0 (edge_coarse 7) edge_fine ≡ at 1 0 ∷ at 3 0 ∷ at 2 1 ∷ []
unfolding is_register_cell is_covered in_domain
cells_beside = refl

-- the faces left of and above cell (2, 1): the second alone is an edge, and it stands for the one below cell (2, 0)
edges_of_one : map (is_coarse_fine (domain edged 0) edge_fine) (face X (pos 2) (pos 1) ∷ face Y (pos 2) (pos 2) ∷ face Y (pos 2) (pos 0) ∷ []) ≡ false ∷ true ∷ true ∷ []
unfolding is_coarse_fine is_covered
edges_of_one = refl

-- cell (1, 0) sends 7 through the edge in the coarse step, which the register takes away
plain_part : net (edge_flows edged 0 (edge_coarse 7) no_masses edge_fine) (at 1 0) ≡ negsuc 6
unfolding edge_flows is_coarse_fine is_covered net flux_at courant value_at in_domain inflow_at
plain_part = refl

-- the finer steps carry 4, so that 3 go back to cell (1, 0), and no more than 4 reach the finer level
correction : net (λ f. (step edged 0 (edge_coarse 7 ∷ edge_fine ∷ []) no_masses).fluxes f -ℤ flux_at edged 0 (edge_coarse 7) no_masses f) (at 1 0) ≡ pos 3
unfolding step_within at_top over_finer effective is_covered updated net flux_at courant value_at in_domain inflow_at
correction = refl
