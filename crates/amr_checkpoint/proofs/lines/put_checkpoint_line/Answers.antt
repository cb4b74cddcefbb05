use Rattle.amr_checkpoint.proofs.Written.{line_of_checkpoint, whole_as}
use Rattle.amr_checkpoint.proofs.lines.put_checkpoint_line.Goals as goal

pub returns-clause-whole : goal.returns-clause-whole
returns-clause-whole g c =
    whole_as g.E.Sink.holds c.args.err.now c.write_fragments.new.sink c.write_fragments.result _ _ (line_of_checkpoint c.from.result c.args.step c.from.ensures) c.write_fragments.ensures.whole
