use Rattle.std.proofs.Common.{sym, ap, subst, ◌∙◌}
use Rattle.amr_plot.specs.BoxParts.{IsPartOf, part_text}
use Rattle.amr_plot.specs.declared.parts.Part.{Part}
use Rattle.amr_plot.proofs.Pens.{puts_same}
use Rattle.amr_plot.proofs.parts.put_part.Goals as goal

pub returns-in-Line : goal.returns-in-Line
returns-in-Line g c =
    puts_same g.met.P.Pen.laws c.args.pen.now c.put_fragments.new.self _ _ c.put_fragments.result (c.box_row.ensures ∙ ap (part_text c.args.layer) (sym c.in-Line.is)) c.put_fragments.ensures

pub returns-in-Rows : goal.returns-in-Rows
returns-in-Rows g c =
    puts_same g.met.P.Pen.laws c.args.pen.now c.put_some_rows.new.pen _ _ c.put_some_rows.result (ap (part_text c.args.layer) (sym c.in-Rows.is)) c.put_some_rows.ensures
