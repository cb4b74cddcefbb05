use Rattle.amr_run.proofs.Messages.{out_of_range_line, short_as, whole_as}
use Rattle.amr_run.proofs.message.put_out_of_range.Goals as goal

pub returns-clause-whole : goal.returns-clause-whole
returns-clause-whole g c =
    whole_as g.E.Sink.holds c.args.err.now c.put_line.new.sink c.put_line.result _ _
    (out_of_range_line c.args.key c.args.value.now c.text.result.now c.sign.result.now c.size.result c.text.ensures c.sign.ensures c.size.ensures)
    c.put_line.ensures.whole

pub returns-clause-short : goal.returns-clause-short
returns-clause-short g c =
    short_as g.E.Sink.holds c.args.err.now c.put_line.new.sink c.put_line.result _ _
    (out_of_range_line c.args.key c.args.value.now c.text.result.now c.sign.result.now c.size.result c.text.ensures c.sign.ensures c.size.ensures)
    c.put_line.ensures.short
