use Rattle.amr_run.proofs.Messages.{tag_count_line, short_as, whole_as}
use Rattle.amr_run.proofs.message.put_tag_count.Goals as goal

pub returns-clause-whole : goal.returns-clause-whole
returns-clause-whole g c =
    let sign = c.sign.ensures in
    let size = c.size.ensures in
    let other_sign = c.sign-2.ensures in
    let other_size = c.size-2.ensures in
    whole_as g.E.Sink.holds c.args.err.now c.put_line.new.sink c.put_line.result _ _
    (tag_count_line c.args.given.now c.args.max_level.now c.sign.result.now c.sign-2.result.now c.size.result c.size-2.result sign size other_sign other_size)
    c.put_line.ensures.whole

pub returns-clause-short : goal.returns-clause-short
returns-clause-short g c =
    let sign = c.sign.ensures in
    let size = c.size.ensures in
    let other_sign = c.sign-2.ensures in
    let other_size = c.size-2.ensures in
    short_as g.E.Sink.holds c.args.err.now c.put_line.new.sink c.put_line.result _ _
    (tag_count_line c.args.given.now c.args.max_level.now c.sign.result.now c.sign-2.result.now c.size.result c.size-2.result sign size other_sign other_size)
    c.put_line.ensures.short
