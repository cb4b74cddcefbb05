-- A worked row of five levels.
use Rattle.std.proofs.Common.{◌≡◌, refl}
use Rattle.std.specs.Prelude.{codes}
use Rattle.std.specs.Fmt.{digits}
use Rattle.amr_def.specs.Domain.{in_domain}
use Rattle.amr_def.specs.Value.{value_at, inflow_at}
use Rattle.amr_def.specs.Ledger.{total_mass}
use Rattle.amr_def.specs.Tags.{is_tagged_by}
use Rattle.amr_def.specs.Cut.{best_cut}
use Rattle.amr_def.specs.Cluster.{cluster, cluster_within}
use Rattle.amr_def.specs.NewBoxes.{new_boxes}
use Rattle.amr_def.specs.Regrid.{regrid, refill, regrid_by}
use Rattle.amr_def.specs.Run.{run, start, finish}
use Rattle.amr_def.specs.Plot.{box_line, box_text, head_text, ledger_line, ledger_lines, level_line, level_text, mass_line, plot, plot_all, rows_text}
use Rattle.amr_examples.proofs.Examples.{five_levels}

five_levels_at_the_start : plot five_levels (run five_levels 0) ≡ codes "amr-plot 1\nname ring\nstep 0\nledger 0 2048 0 0\nlevel 0 1\nbox 0 0 1 1\n1024 0\n1024 0\nlevel 1 1\nbox 0 0 3 3\n256 256 0 0\n256 256 0 0\n256 256 0 0\n256 256 0 0\nlevel 2 1\nbox 0 0 7 7\n64 64 64 64 0 0 0 0\n64 64 64 64 0 0 0 0\n64 64 64 64 0 0 0 0\n64 64 64 64 0 0 0 0\n64 64 64 64 0 0 0 0\n64 64 64 64 0 0 0 0\n64 64 64 64 0 0 0 0\n64 64 64 64 0 0 0 0\nlevel 3 1\nbox 0 0 15 15\n16 16 16 16 16 16 16 16 0 0 0 0 0 0 0 0\n16 16 16 16 16 16 16 16 0 0 0 0 0 0 0 0\n16 16 16 16 16 16 16 16 0 0 0 0 0 0 0 0\n16 16 16 16 16 16 16 16 0 0 0 0 0 0 0 0\n16 16 16 16 16 16 16 16 0 0 0 0 0 0 0 0\n16 16 16 16 16 16 16 16 0 0 0 0 0 0 0 0\n16 16 16 16 16 16 16 16 0 0 0 0 0 0 0 0\n16 16 16 16 16 16 16 16 0 0 0 0 0 0 0 0\n16 16 16 16 16 16 16 16 0 0 0 0 0 0 0 0\n16 16 16 16 16 16 16 16 0 0 0 0 0 0 0 0\n16 16 16 16 16 16 16 16 0 0 0 0 0 0 0 0\n16 16 16 16 16 16 16 16 0 0 0 0 0 0 0 0\n16 16 16 16 16 16 16 16 0 0 0 0 0 0 0 0\n16 16 16 16 16 16 16 16 0 0 0 0 0 0 0 0\n16 16 16 16 16 16 16 16 0 0 0 0 0 0 0 0\n16 16 16 16 16 16 16 16 0 0 0 0 0 0 0 0\nlevel 4 1\nbox 0 0 31 31\n4 4 4 4 4 4 4 4 4 4 4 4 4 4 4 4 0 0 0 0 0 0 0 0 0 0 0 0 0 0 0 0\n4 4 4 4 4 4 4 4 4 4 4 4 4 4 4 4 0 0 0 0 0 0 0 0 0 0 0 0 0 0 0 0\n4 4 4 4 4 4 4 4 4 4 4 4 4 4 4 4 0 0 0 0 0 0 0 0 0 0 0 0 0 0 0 0\n4 4 4 4 4 4 4 4 4 4 4 4 4 4 4 4 0 0 0 0 0 0 0 0 0 0 0 0 0 0 0 0\n4 4 4 4 4 4 4 4 4 4 4 4 4 4 4 4 0 0 0 0 0 0 0 0 0 0 0 0 0 0 0 0\n4 4 4 4 4 4 4 4 4 4 4 4 4 4 4 4 0 0 0 0 0 0 0 0 0 0 0 0 0 0 0 0\n4 4 4 4 4 4 4 4 4 4 4 4 4 4 4 4 0 0 0 0 0 0 0 0 0 0 0 0 0 0 0 0\n4 4 4 4 4 4 4 4 4 4 4 4 4 4 4 4 0 0 0 0 0 0 0 0 0 0 0 0 0 0 0 0\n4 4 4 4 4 4 4 4 4 4 4 4 4 4 4 4 0 0 0 0 0 0 0 0 0 0 0 0 0 0 0 0\n4 4 4 4 4 4 4 4 4 4 4 4 4 4 4 4 0 0 0 0 0 0 0 0 0 0 0 0 0 0 0 0\n4 4 4 4 4 4 4 4 4 4 4 4 4 4 4 4 0 0 0 0 0 0 0 0 0 0 0 0 0 0 0 0\n4 4 4 4 4 4 4 4 4 4 4 4 4 4 4 4 0 0 0 0 0 0 0 0 0 0 0 0 0 0 0 0\n4 4 4 4 4 4 4 4 4 4 4 4 4 4 4 4 0 0 0 0 0 0 0 0 0 0 0 0 0 0 0 0\n4 4 4 4 4 4 4 4 4 4 4 4 4 4 4 4 0 0 0 0 0 0 0 0 0 0 0 0 0 0 0 0\n4 4 4 4 4 4 4 4 4 4 4 4 4 4 4 4 0 0 0 0 0 0 0 0 0 0 0 0 0 0 0 0\n4 4 4 4 4 4 4 4 4 4 4 4 4 4 4 4 0 0 0 0 0 0 0 0 0 0 0 0 0 0 0 0\n4 4 4 4 4 4 4 4 4 4 4 4 4 4 4 4 0 0 0 0 0 0 0 0 0 0 0 0 0 0 0 0\n4 4 4 4 4 4 4 4 4 4 4 4 4 4 4 4 0 0 0 0 0 0 0 0 0 0 0 0 0 0 0 0\n4 4 4 4 4 4 4 4 4 4 4 4 4 4 4 4 0 0 0 0 0 0 0 0 0 0 0 0 0 0 0 0\n4 4 4 4 4 4 4 4 4 4 4 4 4 4 4 4 0 0 0 0 0 0 0 0 0 0 0 0 0 0 0 0\n4 4 4 4 4 4 4 4 4 4 4 4 4 4 4 4 0 0 0 0 0 0 0 0 0 0 0 0 0 0 0 0\n4 4 4 4 4 4 4 4 4 4 4 4 4 4 4 4 0 0 0 0 0 0 0 0 0 0 0 0 0 0 0 0\n4 4 4 4 4 4 4 4 4 4 4 4 4 4 4 4 0 0 0 0 0 0 0 0 0 0 0 0 0 0 0 0\n4 4 4 4 4 4 4 4 4 4 4 4 4 4 4 4 0 0 0 0 0 0 0 0 0 0 0 0 0 0 0 0\n4 4 4 4 4 4 4 4 4 4 4 4 4 4 4 4 0 0 0 0 0 0 0 0 0 0 0 0 0 0 0 0\n4 4 4 4 4 4 4 4 4 4 4 4 4 4 4 4 0 0 0 0 0 0 0 0 0 0 0 0 0 0 0 0\n4 4 4 4 4 4 4 4 4 4 4 4 4 4 4 4 0 0 0 0 0 0 0 0 0 0 0 0 0 0 0 0\n4 4 4 4 4 4 4 4 4 4 4 4 4 4 4 4 0 0 0 0 0 0 0 0 0 0 0 0 0 0 0 0\n4 4 4 4 4 4 4 4 4 4 4 4 4 4 4 4 0 0 0 0 0 0 0 0 0 0 0 0 0 0 0 0\n4 4 4 4 4 4 4 4 4 4 4 4 4 4 4 4 0 0 0 0 0 0 0 0 0 0 0 0 0 0 0 0\n4 4 4 4 4 4 4 4 4 4 4 4 4 4 4 4 0 0 0 0 0 0 0 0 0 0 0 0 0 0 0 0\n4 4 4 4 4 4 4 4 4 4 4 4 4 4 4 4 0 0 0 0 0 0 0 0 0 0 0 0 0 0 0 0\nend\n"
unfolding run start finish regrid regrid_by refill new_boxes cluster cluster_within best_cut is_tagged_by value_at in_domain inflow_at total_mass plot_all head_text ledger_lines ledger_line level_text level_line box_text box_line rows_text mass_line digits
five_levels_at_the_start = refl
