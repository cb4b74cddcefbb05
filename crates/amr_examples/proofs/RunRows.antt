-- A run with an open side, a finer level and a regrid on the way, so that each law has a case.
-- The plot is that of another program for the same problem.
use Rattle.std.proofs.Common.{◌≡◌, refl, [], ◌∷◌, rules}
use Rattle.std.specs.Prelude.{codes}
use Rattle.std.specs.Fmt.{digits}
use Rattle.amr_def.specs.declared.problem.Problem.{Problem}
use Rattle.amr_def.specs.declared.problem.Sides.TheVariants.{Open}
use Rattle.amr_def.specs.Domain.{in_domain}
use Rattle.amr_def.specs.State.{is_covered, level_at, no_masses}
use Rattle.amr_def.specs.Value.{value_at, inflow_at}
use Rattle.amr_def.specs.Flux.{courant, flux_at, net, updated}
use Rattle.amr_def.specs.LevelStep.{effective, at_top, over_finer, step_within}
use Rattle.amr_def.specs.Ledger.{total_mass, inflow, outflow}
use Rattle.amr_def.specs.Tags.{is_tagged_by}
use Rattle.amr_def.specs.Cut.{best_cut}
use Rattle.amr_def.specs.Cluster.{cluster_within, cluster}
use Rattle.amr_def.specs.NewBoxes.{new_boxes}
use Rattle.amr_def.specs.Regrid.{refill, regrid, regrid_by}
use Rattle.amr_def.specs.Run.{stepped, next, finish, start, run}
use Rattle.amr_def.specs.Plot.{box_line, box_text, head_text, ledger_line, ledger_lines, level_line, level_text, mass_line, plot, plot_all, rows_text}
use Rattle.amr_laws.specs.Levels.{masses_of}
use Rattle.amr_laws.specs.Sides.{inflow_beside, is_uncovered, outflow_beside, over_levels}
use Rattle.amr_examples.proofs.Examples.{block, Keys, AreWithinLimits, problem, ring_keys}

-- mass flows in on the west side and out on the east side
abbrev stream_keys : Keys
stream_keys = record ring_keys { nx = 2; x_sides = Open 16 0; max_level = 1; tag = 9 ∷ []; n_error_buf = 0; min_width = 1; regrid_int = 1; blocks = block 1 0 1 0 20 ∷ [] }

stream_limits : AreWithinLimits stream_keys
stream_limits = search rules

abbrev stream : Problem
stream = problem stream_keys stream_limits

stream_is_regridded : plot stream (run stream 2) ≡ codes "amr-plot 1\nname ring\nstep 2\nledger 0 20 0 0\nledger 1 28 16 8\nledger 2 38 16 6\nlevel 0 1\nbox 0 0 1 1\n12 10\n12 4\nlevel 1 1\nbox 2 0 3 3\n2 3\n2 3\n2 0\n2 0\nend\n"
unfolding run start finish next stepped step_within at_top over_finer effective is_covered updated net flux_at courant value_at in_domain inflow_at total_mass inflow outflow regrid regrid_by refill new_boxes cluster cluster_within best_cut is_tagged_by plot_all head_text ledger_lines ledger_line level_text level_line box_text box_line rows_text mass_line digits
stream_is_regridded = refl

-- level 1 lies along the open east side: what flows out there counts at level 1 alone, in both of its steps
ledger_of_the_stream : over_levels (inflow_beside stream) stream 2 0 (masses_of (start stream).levels) no_masses ∷ over_levels (outflow_beside stream) stream 2 0 (masses_of (start stream).levels) no_masses ∷ [] ≡ 16 ∷ 8 ∷ []
unfolding start step_within at_top over_levels inflow_beside outflow_beside is_covered updated net flux_at courant value_at in_domain inflow_at total_mass regrid regrid_by refill new_boxes cluster cluster_within best_cut is_tagged_by
ledger_of_the_stream = refl

nothing_out_at_level_0 : outflow_beside stream 0 (is_uncovered (level_at (start stream) 0).masses (level_at (start stream) 1).masses) (flux_at stream 0 (level_at (start stream) 0).masses no_masses) ≡ 0
unfolding start outflow_beside is_covered flux_at courant value_at in_domain inflow_at total_mass regrid regrid_by refill new_boxes cluster cluster_within best_cut is_tagged_by
nothing_out_at_level_0 = refl
