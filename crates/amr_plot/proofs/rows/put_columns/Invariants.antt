use Rattle.std.proofs.Common.{◌≤◌, ◌-◌}
use Rattle.amr_box.specs.Cells.{width}
use Rattle.amr_plot.specs.Texts.{texts}
use Rattle.amr_plot.specs.Rows.{row_word}
use Rattle.amr_plot.proofs.rows.put_columns.Given as goal

-- the masses before column `first` are put
abbrev pub invariant-loop-first : goal.invariant-loop-first
invariant-loop-first g l = record {
  wrote : g.P.Pen.wrote l.initial.pen l.pen (texts (row_word l.level l.b l.row) l.first);
  within : l.first ≤ width l.b;
}

abbrev pub decreases-loop-first : goal.decreases-loop-first
decreases-loop-first g l = l.width - l.first
