use Rattle.amr_plot.proofs.Pens.{puts_first, puts_then}
use Rattle.amr_view.proofs.boxes.put_line.Goals as goal

pub returns-in_err-put_masses : goal.returns-in_err-put_masses
returns-in_err-put_masses g c = puts_first g.met.P.Pen.laws c.args.pen.now c.put_masses.new.pen _ _ c.from_residual.result c.from_residual.ensures.0 c.in_err-put_masses.ensures.part

pub returns : goal.returns
returns g c = puts_then g.met.P.Pen.laws c.args.pen.now c.put_masses.new.pen c.put_fragments.new.self _ _ c.put_fragments.result c.in_ok-put_masses.ensures.whole c.put_fragments.ensures
