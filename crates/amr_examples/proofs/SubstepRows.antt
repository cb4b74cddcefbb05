-- Worked rows of the two finer steps of a ring, and of cells that nesting asks for.
use Rattle.std.proofs.Common.{◌≡◌, ℕ, Bool, true, false, refl, List, [], ◌∷◌, map}
use Rattle.amr_box.specs.Cells.{Extent}
use Rattle.amr_def.specs.Domain.{Domain, in_domain, is_near}
use Rattle.amr_def.specs.State.{Level, is_covered_by, mass_of, no_masses}
use Rattle.amr_def.specs.Value.{value_at, inflow_at}
use Rattle.amr_def.specs.Flux.{courant, flux_at, net, updated}
use Rattle.amr_def.specs.LevelStep.{at_top, step_within}
use Rattle.amr_examples.proofs.Examples.{at, box, edge_coarse, edge_fine, edge_state, edged}
use Rattle.amr_def.proofs.Chain.{nth}
use Rattle.amr_examples.proofs.RegridRows.{eight}
use Rattle.amr_laws.specs.Substeps.{IsSubstep, after_step}
use Rattle.amr_laws.specs.Substeps.{second, whole}

-- mass 8 in cell (1, 0), and four empty cells over cell (2, 0)
abbrev coarse_level : Level
coarse_level = record { boxes = box 0 0 3 1 ∷ []; masses = edge_coarse 8 }

abbrev fine_level : Level
fine_level = record { boxes = box 4 0 5 1 ∷ []; masses = edge_fine }

abbrev after_first : List Level
after_first = after_step edged 1 (fine_level ∷ []) (edge_coarse 8)

abbrev after_second : List Level
after_second = after_step edged 1 after_first (edge_coarse 8)

second_step_of_the_ring : IsSubstep edged (edge_state 8) 1 after_first (edge_coarse 8)
second_step_of_the_ring = second 0 coarse_level (fine_level ∷ []) no_masses whole

-- a quarter of 8 flows into each low cell, in both steps
first_step_of_the_ring : map (mass_of (nth after_first 0).masses) (at 4 0 ∷ at 5 0 ∷ at 4 1 ∷ at 5 1 ∷ []) ≡ 2 ∷ 0 ∷ 2 ∷ 0 ∷ []
unfolding step_within at_top updated net flux_at courant value_at in_domain inflow_at
first_step_of_the_ring = refl

both_steps_of_the_ring : map (mass_of (nth after_second 0).masses) (at 4 0 ∷ at 5 0 ∷ at 4 1 ∷ at 5 1 ∷ []) ≡ 2 ∷ 2 ∷ 2 ∷ 2 ∷ []
unfolding step_within at_top updated net flux_at courant value_at in_domain inflow_at
both_steps_of_the_ring = refl

-- ---- nesting

abbrev open_sides : Domain
open_sides = record { columns = 8; rows = 8; wrap_x = false; wrap_y = false }

-- whether a cell has to be of the next coarser level than finer boxes
abbrev is_asked : Domain → List Extent → ℕ → ℕ → Bool
is_asked d fine x y = is_near d 1 (is_covered_by fine) (at x y)

corners_too : is_asked eight (box 4 4 5 5 ∷ []) 1 1 ∷ is_asked eight (box 4 4 5 5 ∷ []) 3 3 ∷ is_asked eight (box 4 4 5 5 ∷ []) 4 4 ∷ [] ≡ true ∷ true ∷ false ∷ []
corners_too = refl

past_the_end_of_a_periodic_axis : is_asked eight (box 0 0 1 1 ∷ []) 7 7 ≡ true
past_the_end_of_a_periodic_axis = refl

not_past_an_open_side : is_asked open_sides (box 0 0 1 1 ∷ []) 7 7 ≡ false
not_past_an_open_side = refl
