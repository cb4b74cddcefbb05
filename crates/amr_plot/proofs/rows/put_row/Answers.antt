use Rattle.amr_patch.proofs.Rows.{sides}
use Rattle.amr_plot.proofs.Pens.{puts_first, puts_same, puts_then}
use Rattle.amr_plot.proofs.Words.{row_is}
use Rattle.amr_plot.proofs.rows.put_row.Goals as goal

pub returns-in_err-put_columns : goal.returns-in_err-put_columns
returns-in_err-put_columns g c =
    let b = c.args.b.now in
    puts_same g.met.P.Pen.laws c.args.pen.now c.put_columns.new.pen _ _ c.from_residual.result (row_is c.args.level.now b c.args.row (sides b c.requires.near).some_columns)
    (puts_first g.met.P.Pen.laws c.args.pen.now c.put_columns.new.pen _ _ c.from_residual.result c.from_residual.ensures.0 c.in_err-put_columns.ensures.part)

pub returns : goal.returns
returns g c =
    let b = c.args.b.now in
    puts_same g.met.P.Pen.laws c.args.pen.now c.put_fragments.new.self _ _ c.put_fragments.result (row_is c.args.level.now b c.args.row (sides b c.requires.near).some_columns)
    (puts_then g.met.P.Pen.laws c.args.pen.now c.put_columns.new.pen c.put_fragments.new.self _ _ c.put_fragments.result c.in_ok-put_columns.ensures.whole c.put_fragments.ensures)
