-- Worked rows of steps, as plots.
use Rattle.std.proofs.Common.{◌≡◌, refl}
use Rattle.std.specs.Prelude.{codes}
use Rattle.std.specs.Fmt.{digits}
use Rattle.amr_def.specs.Domain.{in_domain}
use Rattle.amr_def.specs.Value.{value_at, inflow_at}
use Rattle.amr_def.specs.Flux.{updated, net, flux_at, courant}
use Rattle.amr_def.specs.LevelStep.{step_within, at_top}
use Rattle.amr_def.specs.Ledger.{total_mass, inflow, outflow}
use Rattle.amr_def.specs.Run.{run, start, finish, stepped, next}
use Rattle.amr_def.specs.Plot.{box_line, box_text, head_text, ledger_line, ledger_lines, level_line, level_text, mass_line, plot, plot_all, rows_text}
use Rattle.amr_examples.proofs.Examples.{ring, odd_ring, open_pair, filling, long_ring, sheared}

ring_start : plot ring (run ring 0) ≡ codes "amr-plot 1\nname ring\nstep 0\nledger 0 8 0 0\nlevel 0 1\nbox 0 0 3 1\n8 0 0 0\n0 0 0 0\nend\n"
unfolding run start finish next stepped step_within at_top updated net flux_at courant value_at in_domain inflow_at total_mass inflow outflow plot_all head_text ledger_lines ledger_line level_text level_line box_text box_line rows_text mass_line digits
ring_start = refl

ring_one_step : plot ring (run ring 1) ≡ codes "amr-plot 1\nname ring\nstep 1\nledger 0 8 0 0\nledger 1 8 0 0\nlevel 0 1\nbox 0 0 3 1\n4 4 0 0\n0 0 0 0\nend\n"
unfolding run start finish next stepped step_within at_top updated net flux_at courant value_at in_domain inflow_at total_mass inflow outflow plot_all head_text ledger_lines ledger_line level_text level_line box_text box_line rows_text mass_line digits
ring_one_step = refl

odd_ring_one_step : plot odd_ring (run odd_ring 1) ≡ codes "amr-plot 1\nname ring\nstep 1\nledger 0 7 0 0\nledger 1 7 0 0\nlevel 0 1\nbox 0 0 3 1\n4 3 0 0\n0 0 0 0\nend\n"
unfolding run start finish next stepped step_within at_top updated net flux_at courant value_at in_domain inflow_at total_mass inflow outflow plot_all head_text ledger_lines ledger_line level_text level_line box_text box_line rows_text mass_line digits
odd_ring_one_step = refl

odd_ring_two_steps : plot odd_ring (run odd_ring 2) ≡ codes "amr-plot 1\nname ring\nstep 2\nledger 0 7 0 0\nledger 1 7 0 0\nledger 2 7 0 0\nlevel 0 1\nbox 0 0 3 1\n2 4 1 0\n0 0 0 0\nend\n"
unfolding run start finish next stepped step_within at_top updated net flux_at courant value_at in_domain inflow_at total_mass inflow outflow plot_all head_text ledger_lines ledger_line level_text level_line box_text box_line rows_text mass_line digits
odd_ring_two_steps = refl

open_side_lets_out : plot open_pair (run open_pair 1) ≡ codes "amr-plot 1\nname ring\nstep 1\nledger 0 5 0 0\nledger 1 0 0 5\nlevel 0 1\nbox 0 0 1 1\n0 0\n0 0\nend\n"
unfolding run start finish next stepped step_within at_top updated net flux_at courant value_at in_domain inflow_at total_mass inflow outflow plot_all head_text ledger_lines ledger_line level_text level_line box_text box_line rows_text mass_line digits
open_side_lets_out = refl

open_side_lets_in : plot filling (run filling 1) ≡ codes "amr-plot 1\nname ring\nstep 1\nledger 0 0 0 0\nledger 1 6 6 0\nlevel 0 1\nbox 0 0 1 1\n3 0\n3 0\nend\n"
unfolding run start finish next stepped step_within at_top updated net flux_at courant value_at in_domain inflow_at total_mass inflow outflow plot_all head_text ledger_lines ledger_line level_text level_line box_text box_line rows_text mass_line digits
open_side_lets_in = refl

long_ring_two_steps : plot long_ring (run long_ring 2) ≡ codes "amr-plot 1\nname ring\nstep 2\nledger 0 8 0 0\nledger 1 8 0 0\nledger 2 8 0 0\nlevel 0 1\nbox 0 0 8 2\n0 8 0 0 0 0 0 0 0\n0 0 0 0 0 0 0 0 0\n0 0 0 0 0 0 0 0 0\nend\n"
unfolding run start finish next stepped step_within at_top updated net flux_at courant value_at in_domain inflow_at total_mass inflow outflow plot_all head_text ledger_lines ledger_line level_text level_line box_text box_line rows_text mass_line digits
long_ring_two_steps = refl

rows_against_each_other : plot sheared (run sheared 1) ≡ codes "amr-plot 1\nname ring\nstep 1\nledger 0 16 0 0\nledger 1 16 0 0\nlevel 0 1\nbox 0 0 3 1\n4 4 0 0\n4 0 0 4\nend\n"
unfolding run start finish next stepped step_within at_top updated net flux_at courant value_at in_domain inflow_at total_mass inflow outflow plot_all head_text ledger_lines ledger_line level_text level_line box_text box_line rows_text mass_line digits
rows_against_each_other = refl
