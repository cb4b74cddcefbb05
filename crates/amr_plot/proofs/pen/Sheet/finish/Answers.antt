use Rattle.amr_plot.proofs.SheetTexts.{unsent}
use Rattle.amr_plot.proofs.pen.Sheet.finish.Goals as goal

pub returns-clause-short : goal.returns-clause-short
returns-clause-short g c =
    unsent g.O.Sink.holds g.O.Sink.faults c.args.self.now.sink.now c.flush.new.sink c.args.self.now.text c.flush.result c.flush.ensures.short c.flush.ensures.cause
