use Rattle.amr_run.proofs.Messages.{short_as, species_line, whole_as}
use Rattle.amr_run.proofs.message.put_species.Goals as goal

pub returns-clause-whole : goal.returns-clause-whole
returns-clause-whole g c =
    whole_as g.E.Sink.holds c.args.err.now c.put_line.new.sink c.put_line.result _ _
    (species_line c.args.index c.from.result c.args.species.now c.sign.result.now c.size.result c.from.ensures c.sign.ensures c.size.ensures)
    c.put_line.ensures.whole

pub returns-clause-short : goal.returns-clause-short
returns-clause-short g c =
    short_as g.E.Sink.holds c.args.err.now c.put_line.new.sink c.put_line.result _ _
    (species_line c.args.index c.from.result c.args.species.now c.sign.result.now c.size.result c.from.ensures c.sign.ensures c.size.ensures)
    c.put_line.ensures.short
