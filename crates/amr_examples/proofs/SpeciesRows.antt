-- Worked rows of several species and of views.
use Rattle.std.proofs.Common.{◌≡◌, refl, [], ◌∷◌, rules}
use Rattle.std.specs.Prelude.{codes}
use Rattle.std.specs.Fmt.{digits}
use Rattle.amr_def.specs.declared.problem.Problem.{Problem}
use Rattle.amr_def.specs.declared.problem.Block.{Block}
use Rattle.amr_def.specs.Domain.{in_domain}
use Rattle.amr_def.specs.State.{is_covered}
use Rattle.amr_def.specs.Value.{value_at, inflow_at}
use Rattle.amr_def.specs.Flux.{updated, net, flux_at, courant}
use Rattle.amr_def.specs.LevelStep.{at_top, effective, over_finer, step_within}
use Rattle.amr_def.specs.Ledger.{total_mass, inflow, outflow}
use Rattle.amr_def.specs.Tags.{is_tagged_by}
use Rattle.amr_def.specs.Cut.{best_cut}
use Rattle.amr_def.specs.Cluster.{cluster, cluster_within}
use Rattle.amr_def.specs.NewBoxes.{new_boxes}
use Rattle.amr_def.specs.Regrid.{refill, regrid, regrid_by}
use Rattle.amr_def.specs.Run.{finish, next, run, start, stepped}
use Rattle.amr_def.specs.Species.{finish_all, next_all, of_species, regrid_all, run_all, start_all, stepped_all}
use Rattle.amr_def.specs.Plot.{box_line, box_text, head_text, ledger_line, ledger_lines, level_line, level_text, mass_line, plot_all, rows_text}
use Rattle.amr_def.specs.View.{finest_mass, view}
use Rattle.amr_examples.proofs.Examples.{box, block, Keys, AreWithinLimits, problem, ring_keys, spot_keys, filling_keys, touching}

abbrev of_the_second : Block → Block
of_the_second b = record b { species = 1 }

-- ---- several species

-- two species in the ring, each with mass in one cell
abbrev two_rings_keys : Keys
two_rings_keys = record ring_keys { version = 3; species = 2; blocks = block 0 0 0 0 8 ∷ of_the_second (block 1 0 1 0 7) ∷ [] }

two_rings_limits : AreWithinLimits two_rings_keys
two_rings_limits = search rules

abbrev two_rings : Problem
two_rings = problem two_rings_keys two_rings_limits

two_species_one_step : plot_all two_rings (run_all two_rings 1) ≡ codes "amr-plot 2\nname ring\nstep 1\nledger 0 0 8 0 0\nledger 0 1 7 0 0\nledger 1 0 8 0 0\nledger 1 1 7 0 0\nlevel 0 1\nbox 0 0 3 1\nspecies 0\n4 4 0 0\n0 0 0 0\nspecies 1\n0 4 3 0\n0 0 0 0\nend\n"
unfolding of_species run_all start_all finish_all next_all stepped_all stepped step_within at_top updated net flux_at courant value_at in_domain inflow_at total_mass inflow outflow plot_all head_text ledger_lines ledger_line level_text level_line box_text box_line rows_text mass_line digits
two_species_one_step = refl

-- the inflows are of the first species
abbrev two_fillings_keys : Keys
two_fillings_keys = record filling_keys { version = 3; species = 2 }

two_fillings_limits : AreWithinLimits two_fillings_keys
two_fillings_limits = search rules

abbrev two_fillings : Problem
two_fillings = problem two_fillings_keys two_fillings_limits

first_species_flows_in : plot_all two_fillings (run_all two_fillings 1) ≡ codes "amr-plot 2\nname ring\nstep 1\nledger 0 0 0 0 0\nledger 0 1 0 0 0\nledger 1 0 6 6 0\nledger 1 1 0 0 0\nlevel 0 1\nbox 0 0 1 1\nspecies 0\n3 0\n3 0\nspecies 1\n0 0\n0 0\nend\n"
unfolding of_species run_all start_all finish_all next_all stepped_all stepped step_within at_top updated net flux_at courant value_at in_domain inflow_at total_mass inflow outflow plot_all head_text ledger_lines ledger_line level_text level_line box_text box_line rows_text mass_line digits
first_species_flows_in = refl

-- one cell of the second species differs from its neighbours, and the first is the same everywhere
abbrev second_spot_keys : Keys
second_spot_keys = record spot_keys { version = 3; species = 2; efficiency = 60; blocks = block 0 0 3 1 1 ∷ of_the_second (block 1 0 1 0 7) ∷ [] }

second_spot_limits : AreWithinLimits second_spot_keys
second_spot_limits = search rules

abbrev second_spot : Problem
second_spot = problem second_spot_keys second_spot_limits

tags_of_either_refine_both : plot_all second_spot (run_all second_spot 0) ≡ codes "amr-plot 2\nname ring\nstep 0\nledger 0 0 8 0 0\nledger 0 1 7 0 0\nlevel 0 1\nbox 0 0 3 1\nspecies 0\n1 1 1 1\n1 1 1 1\nspecies 1\n0 7 0 0\n0 0 0 0\nlevel 1 1\nbox 0 0 5 3\nspecies 0\n1 0 1 0 1 0\n0 0 0 0 0 0\n1 0 1 0 1 0\n0 0 0 0 0 0\nspecies 1\n0 0 2 2 0 0\n0 0 2 1 0 0\n0 0 0 0 0 0\n0 0 0 0 0 0\nend\n"
unfolding of_species run_all start_all finish_all next_all stepped_all regrid_all regrid_by refill new_boxes cluster cluster_within best_cut is_tagged_by value_at in_domain inflow_at total_mass plot_all head_text ledger_lines ledger_line level_text level_line box_text box_line rows_text mass_line digits
tags_of_either_refine_both = refl

-- ---- views

-- a difference of 7 does not tag here
abbrev coarse_spot_keys : Keys
coarse_spot_keys = record spot_keys { tag = 9 ∷ [] }

coarse_spot_limits : AreWithinLimits coarse_spot_keys
coarse_spot_limits = search rules

abbrev coarse_spot : Problem
coarse_spot = problem coarse_spot_keys coarse_spot_limits

shares_of_a_parent : view (run coarse_spot 0) 1 (box 2 0 3 1) ≡ codes "2 2\n2 1\n"
unfolding run start finish regrid regrid_by refill new_boxes cluster cluster_within best_cut is_tagged_by value_at in_domain inflow_at total_mass view finest_mass mass_line digits
shares_of_a_parent = refl

shares_of_shares : view (run coarse_spot 0) 2 (box 4 0 7 3) ≡ codes "1 1 1 1\n0 0 0 0\n1 1 1 0\n0 0 0 0\n"
unfolding run start finish regrid regrid_by refill new_boxes cluster cluster_within best_cut is_tagged_by value_at in_domain inflow_at total_mass view finest_mass mass_line digits
shares_of_shares = refl

-- what the level holds after a step, not the shares 1 1 1 1 of the 4 4 below it
own_masses : view (run touching 1) 1 (box 0 0 3 0) ≡ codes "1 1 2 0\n"
unfolding run start finish next stepped step_within at_top over_finer effective is_covered updated net flux_at courant value_at in_domain inflow_at total_mass inflow outflow regrid regrid_by refill new_boxes cluster cluster_within best_cut is_tagged_by view finest_mass mass_line digits
own_masses = refl
