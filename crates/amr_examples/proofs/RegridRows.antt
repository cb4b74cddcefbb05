-- Worked rows of new boxes and regrids.
use Rattle.std.proofs.Common.{◌≡◌, refl, [], ◌∷◌, map, true}
use Rattle.std.specs.Prelude.{codes}
use Rattle.std.specs.Fmt.{digits}
use Rattle.amr_def.specs.Domain.{Domain, domain, in_domain, cells_where}
use Rattle.amr_def.specs.Value.{value_at, inflow_at}
use Rattle.amr_def.specs.Ledger.{total_mass}
use Rattle.amr_def.specs.Tags.{is_tagged, is_tagged_by}
use Rattle.amr_def.specs.Cut.{best_cut}
use Rattle.amr_def.specs.Cluster.{cluster, cluster_within}
use Rattle.amr_def.specs.NewBoxes.{new_boxes, is_projected}
use Rattle.amr_def.specs.Regrid.{regrid, refill, child_share, regrid_by}
use Rattle.amr_def.specs.Run.{plain_start, run, start, finish}
use Rattle.amr_def.specs.Plot.{box_line, box_text, head_text, ledger_line, ledger_lines, level_line, level_text, mass_line, plot, plot_all, rows_text}
use Rattle.amr_examples.proofs.Examples.{box, at, spot, loose_spot, blocked_spot, three_levels}

shares_of_seven : map (child_share 7) (0 ∷ 1 ∷ 2 ∷ 3 ∷ []) ≡ 2 ∷ 2 ∷ 2 ∷ 1 ∷ []
shares_of_seven = refl

shares_of_two : map (child_share 2) (0 ∷ 1 ∷ 2 ∷ 3 ∷ []) ≡ 1 ∷ 1 ∷ 0 ∷ 0 ∷ []
shares_of_two = refl

shares_of_nothing : map (child_share 0) (0 ∷ 1 ∷ 2 ∷ 3 ∷ []) ≡ 0 ∷ 0 ∷ 0 ∷ 0 ∷ []
shares_of_nothing = refl

-- a periodic domain of 8 by 8 cells, and the coarser one of 4 by 4
abbrev pub eight : Domain
eight = record { columns = 8; rows = 8; wrap_x = true; wrap_y = true }

abbrev four : Domain
four = record { columns = 4; rows = 4; wrap_x = true; wrap_y = true }

projected_inside : cells_where four (is_projected eight (box 4 4 5 5 ∷ [])) ≡ at 0 0 ∷ at 1 0 ∷ at 0 1 ∷ at 1 1 ∷ []
projected_inside = refl

projected_round_the_ends : cells_where four (is_projected eight (box 0 0 1 1 ∷ [])) ≡ at 0 0 ∷ at 3 0 ∷ at 0 3 ∷ at 3 3 ∷ []
projected_round_the_ends = refl

tags_of_a_spot : cells_where (domain spot 0) (is_tagged spot (plain_start spot) 0) ≡ at 0 0 ∷ at 1 0 ∷ at 2 0 ∷ at 1 1 ∷ []
unfolding is_tagged_by value_at in_domain inflow_at
tags_of_a_spot = refl

three_boxes_round_a_spot : plot spot (run spot 0) ≡ codes "amr-plot 1\nname ring\nstep 0\nledger 0 7 0 0\nlevel 0 1\nbox 0 0 3 1\n0 7 0 0\n0 0 0 0\nlevel 1 3\nbox 0 0 1 1\n0 0\n0 0\nbox 2 0 3 3\n2 2\n2 1\n0 0\n0 0\nbox 4 0 5 1\n0 0\n0 0\nend\n"
unfolding run start finish regrid regrid_by refill new_boxes cluster cluster_within best_cut is_tagged_by value_at in_domain inflow_at total_mass plot_all head_text ledger_lines ledger_line level_text level_line box_text box_line rows_text mass_line digits
three_boxes_round_a_spot = refl

one_box_round_a_spot : plot loose_spot (run loose_spot 0) ≡ codes "amr-plot 1\nname ring\nstep 0\nledger 0 7 0 0\nlevel 0 1\nbox 0 0 3 1\n0 7 0 0\n0 0 0 0\nlevel 1 1\nbox 0 0 5 3\n0 0 2 2 0 0\n0 0 2 1 0 0\n0 0 0 0 0 0\n0 0 0 0 0 0\nend\n"
unfolding run start finish regrid regrid_by refill new_boxes cluster cluster_within best_cut is_tagged_by value_at in_domain inflow_at total_mass plot_all head_text ledger_lines ledger_line level_text level_line box_text box_line rows_text mass_line digits
one_box_round_a_spot = refl

one_block_round_a_spot : plot blocked_spot (run blocked_spot 0) ≡ codes "amr-plot 1\nname ring\nstep 0\nledger 0 7 0 0\nlevel 0 1\nbox 0 0 3 1\n0 7 0 0\n0 0 0 0\nlevel 1 1\nbox 0 0 7 3\n0 0 2 2 0 0 0 0\n0 0 2 1 0 0 0 0\n0 0 0 0 0 0 0 0\n0 0 0 0 0 0 0 0\nend\n"
unfolding run start finish regrid regrid_by refill new_boxes cluster cluster_within best_cut is_tagged_by value_at in_domain inflow_at total_mass plot_all head_text ledger_lines ledger_line level_text level_line box_text box_line rows_text mass_line digits
one_block_round_a_spot = refl

three_levels_at_the_start : plot three_levels (run three_levels 0) ≡ codes "amr-plot 1\nname ring\nstep 0\nledger 0 128 0 0\nlevel 0 1\nbox 0 0 1 1\n64 0\n64 0\nlevel 1 1\nbox 0 0 3 3\n16 16 0 0\n16 16 0 0\n16 16 0 0\n16 16 0 0\nlevel 2 1\nbox 0 0 7 7\n4 4 4 4 0 0 0 0\n4 4 4 4 0 0 0 0\n4 4 4 4 0 0 0 0\n4 4 4 4 0 0 0 0\n4 4 4 4 0 0 0 0\n4 4 4 4 0 0 0 0\n4 4 4 4 0 0 0 0\n4 4 4 4 0 0 0 0\nend\n"
unfolding run start finish regrid regrid_by refill new_boxes cluster cluster_within best_cut is_tagged_by value_at in_domain inflow_at total_mass plot_all head_text ledger_lines ledger_line level_text level_line box_text box_line rows_text mass_line digits
three_levels_at_the_start = refl
