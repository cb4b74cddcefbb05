-- Worked rows of what a register gathers in a step of a ring.
use Rattle.std.proofs.Common.{◌≡◌, ℕ, ℤ, pos, List, [], ◌∷◌, map, refl}
use Rattle.amr_def.specs.Domain.{in_domain}
use Rattle.amr_def.specs.Ledger.{first_of}
use Rattle.amr_def.specs.LevelStep.{at_top, step, step_within}
use Rattle.amr_def.specs.State.{Level, Masses, is_covered, no_masses}
use Rattle.amr_def.specs.Value.{inflow_at, value_at}
use Rattle.amr_def.specs.Flux.{courant, flux_at, net, updated}
use Rattle.amr_examples.proofs.Examples.{at, box, edge_coarse, edge_fine, edged}
use Rattle.amr_register.specs.CoarseFlows.{edge_flows}
use Rattle.amr_register.specs.RegisterCells.{is_coarse_fine}
use Rattle.amr_flows.specs.Subcycle.{gathered}
use Rattle.amr_flows.specs.Words.{child_flows}

-- mass m in cell (1, 0), and four empty cells over cell (2, 0): the cell at the low side of the fine box, and that at its high side
abbrev coarse_level : ℕ → Level
coarse_level m = record { boxes = box 0 0 3 1 ∷ []; masses = edge_coarse m }

abbrev between : ℕ → Masses
between m = first_of (step edged 1 (edge_fine ∷ []) (edge_coarse m)).levels

abbrev low_and_high : ℕ → List ℤ
low_and_high m = map (gathered edged 0 (coarse_level m) no_masses edge_fine (between m)) (at 1 0 ∷ at 3 0 ∷ [])

-- all of m leaves the cell by its plain flux, and four quarters of m, rounded down, by the child faces: the rest comes back
rest_of_seven : low_and_high 7 ≡ pos 3 ∷ pos 0 ∷ []
unfolding step_within at_top updated net flux_at courant value_at in_domain inflow_at child_flows edge_flows is_coarse_fine is_covered
rest_of_seven = refl

nothing_of_eight : low_and_high 8 ≡ pos 0 ∷ pos 0 ∷ []
unfolding step_within at_top updated net flux_at courant value_at in_domain inflow_at child_flows edge_flows is_coarse_fine is_covered
nothing_of_eight = refl

all_of_two : low_and_high 2 ≡ pos 2 ∷ pos 0 ∷ []
unfolding step_within at_top updated net flux_at courant value_at in_domain inflow_at child_flows edge_flows is_coarse_fine is_covered
all_of_two = refl
