-- Worked rows of two levels: a step beside a coarse-fine edge.
use Rattle.std.proofs.Common.{◌≡◌, pos, refl, [], ◌∷◌, map}
use Rattle.std.specs.Prelude.{codes}
use Rattle.std.specs.Fmt.{digits}
use Rattle.amr_box.specs.declared.Axis.TheVariants.{X}
use Rattle.amr_def.specs.Domain.{domain, in_domain, cells_where}
use Rattle.amr_def.specs.State.{is_covered, no_masses}
use Rattle.amr_def.specs.Value.{value_at, inflow_at}
use Rattle.amr_def.specs.Flux.{face, updated, net, flux_at, courant}
use Rattle.amr_def.specs.LevelStep.{step, step_within, at_top, over_finer, effective}
use Rattle.amr_def.specs.Ledger.{total_mass, inflow, outflow}
use Rattle.amr_def.specs.Tags.{is_tagged, is_tagged_by}
use Rattle.amr_def.specs.Cut.{best_cut}
use Rattle.amr_def.specs.Cluster.{cluster, cluster_within}
use Rattle.amr_def.specs.NewBoxes.{new_boxes}
use Rattle.amr_def.specs.Regrid.{regrid, refill, regrid_by}
use Rattle.amr_def.specs.Run.{plain_start, run, start, finish, stepped, next}
use Rattle.amr_def.specs.Plot.{box_line, box_text, head_text, ledger_line, ledger_lines, level_line, level_text, mass_line, plot, plot_all, rows_text}
use Rattle.amr_examples.proofs.Examples.{edged, edge_coarse, edge_fine, edge_state, at, touching}

ghost_cells_of_seven : map (value_at edged 1 edge_fine (edge_coarse 7)) (at 3 0 ∷ at 3 1 ∷ []) ≡ 1 ∷ 1 ∷ []
unfolding value_at in_domain inflow_at
ghost_cells_of_seven = refl

step_from_seven : plot edged (stepped edged (edge_state 7)) ≡ codes "amr-plot 1\nname ring\nstep 1\nledger 0 7 0 0\nledger 1 7 0 0\nlevel 0 1\nbox 0 0 3 1\n0 3 4 0\n0 0 0 0\nlevel 1 1\nbox 4 0 5 1\n1 1\n1 1\nend\n"
unfolding stepped step_within at_top over_finer effective is_covered updated net flux_at courant value_at in_domain inflow_at total_mass inflow outflow plot_all head_text ledger_lines ledger_line level_text level_line box_text box_line rows_text mass_line digits
step_from_seven = refl

plain_flux_of_seven : flux_at edged 0 (edge_coarse 7) no_masses (face X (pos 2) (pos 0)) ≡ pos 7
unfolding flux_at courant value_at in_domain inflow_at
plain_flux_of_seven = refl

effective_flux_of_seven : (step edged 0 (edge_coarse 7 ∷ edge_fine ∷ []) no_masses).fluxes (face X (pos 2) (pos 0)) ≡ pos 4
unfolding step_within at_top over_finer effective is_covered updated net flux_at courant value_at in_domain inflow_at
effective_flux_of_seven = refl

ghost_cells_of_eight : map (value_at edged 1 edge_fine (edge_coarse 8)) (at 3 0 ∷ at 3 1 ∷ []) ≡ 2 ∷ 2 ∷ []
unfolding value_at in_domain inflow_at
ghost_cells_of_eight = refl

step_from_eight : plot edged (stepped edged (edge_state 8)) ≡ codes "amr-plot 1\nname ring\nstep 1\nledger 0 8 0 0\nledger 1 8 0 0\nlevel 0 1\nbox 0 0 3 1\n0 0 8 0\n0 0 0 0\nlevel 1 1\nbox 4 0 5 1\n2 2\n2 2\nend\n"
unfolding stepped step_within at_top over_finer effective is_covered updated net flux_at courant value_at in_domain inflow_at total_mass inflow outflow plot_all head_text ledger_lines ledger_line level_text level_line box_text box_line rows_text mass_line digits
step_from_eight = refl

plain_flux_of_eight : flux_at edged 0 (edge_coarse 8) no_masses (face X (pos 2) (pos 0)) ≡ pos 8
unfolding flux_at courant value_at in_domain inflow_at
plain_flux_of_eight = refl

effective_flux_of_eight : (step edged 0 (edge_coarse 8 ∷ edge_fine ∷ []) no_masses).fluxes (face X (pos 2) (pos 0)) ≡ pos 8
unfolding step_within at_top over_finer effective is_covered updated net flux_at courant value_at in_domain inflow_at
effective_flux_of_eight = refl

ghost_cells_of_two : map (value_at edged 1 edge_fine (edge_coarse 2)) (at 3 0 ∷ at 3 1 ∷ []) ≡ 0 ∷ 0 ∷ []
unfolding value_at in_domain inflow_at
ghost_cells_of_two = refl

step_from_two : plot edged (stepped edged (edge_state 2)) ≡ codes "amr-plot 1\nname ring\nstep 1\nledger 0 2 0 0\nledger 1 2 0 0\nlevel 0 1\nbox 0 0 3 1\n0 2 0 0\n0 0 0 0\nlevel 1 1\nbox 4 0 5 1\n0 0\n0 0\nend\n"
unfolding stepped step_within at_top over_finer effective is_covered updated net flux_at courant value_at in_domain inflow_at total_mass inflow outflow plot_all head_text ledger_lines ledger_line level_text level_line box_text box_line rows_text mass_line digits
step_from_two = refl

plain_flux_of_two : flux_at edged 0 (edge_coarse 2) no_masses (face X (pos 2) (pos 0)) ≡ pos 2
unfolding flux_at courant value_at in_domain inflow_at
plain_flux_of_two = refl

effective_flux_of_two : (step edged 0 (edge_coarse 2 ∷ edge_fine ∷ []) no_masses).fluxes (face X (pos 2) (pos 0)) ≡ pos 0
unfolding step_within at_top over_finer effective is_covered updated net flux_at courant value_at in_domain inflow_at
effective_flux_of_two = refl

fully_refined_step : plot touching (run touching 1) ≡ codes "amr-plot 1\nname ring\nstep 1\nledger 0 16 0 0\nledger 1 16 0 0\nlevel 0 1\nbox 0 0 1 1\n4 4\n4 4\nlevel 1 1\nbox 0 0 3 3\n1 1 2 0\n1 1 2 0\n1 1 2 0\n1 1 2 0\nend\n"
unfolding next stepped step_within at_top over_finer effective is_covered updated net flux_at courant value_at in_domain inflow_at total_mass inflow outflow run start finish regrid regrid_by refill new_boxes cluster cluster_within best_cut is_tagged_by plot_all head_text ledger_lines ledger_line level_text level_line box_text box_line rows_text mass_line digits
fully_refined_step = refl

every_cell_tagged : cells_where (domain touching 0) (is_tagged touching (plain_start touching) 0) ≡ at 0 0 ∷ at 1 0 ∷ at 0 1 ∷ at 1 1 ∷ []
unfolding is_tagged_by value_at in_domain inflow_at
every_cell_tagged = refl
