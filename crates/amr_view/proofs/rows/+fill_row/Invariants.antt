use Rattle.amr_view.proofs.rows.+fill_row.Given as goal

abbrev pub decreases-fill_row : goal.decreases-fill_row
decreases-fill_row l = l.l
