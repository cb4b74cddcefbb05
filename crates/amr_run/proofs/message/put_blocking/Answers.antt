use Rattle.amr_run.proofs.Messages.{blocking_line, short_as, whole_as}
use Rattle.amr_run.proofs.message.put_blocking.Goals as goal

pub returns-clause-whole : goal.returns-clause-whole
returns-clause-whole g c =
    whole_as g.E.Sink.holds c.args.err.now c.put_line.new.sink c.put_line.result _ _
    (blocking_line c.args.axis c.args.blocking.now c.sign.result.now c.axis_name.result.now c.size.result c.sign.ensures c.size.ensures c.axis_name.ensures)
    c.put_line.ensures.whole

pub returns-clause-short : goal.returns-clause-short
returns-clause-short g c =
    short_as g.E.Sink.holds c.args.err.now c.put_line.new.sink c.put_line.result _ _
    (blocking_line c.args.axis c.args.blocking.now c.sign.result.now c.axis_name.result.now c.size.result c.sign.ensures c.size.ensures c.axis_name.ensures)
    c.put_line.ensures.short
