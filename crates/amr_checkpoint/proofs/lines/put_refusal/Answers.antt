use Rattle.std.proofs.Common.{◌∙◌}
use Rattle.amr_checkpoint.proofs.Written.{ahead_line, same_line, short_as, whole_as, wrong_problem_line}
use Rattle.amr_checkpoint.proofs.lines.put_refusal.Goals as goal

pub returns-in-WrongProblem-clause-whole : goal.returns-in-WrongProblem-clause-whole
returns-in-WrongProblem-clause-whole g c =
    whole_as g.E.Sink.holds c.args.err.now c.write_fragments.new.sink c.write_fragments.result _ _
    (wrong_problem_line c.in-WrongProblem.kept c.in-WrongProblem.given c.in-WrongProblem.place ∙ same_line _ _ c.in-WrongProblem.is) c.write_fragments.ensures.whole

pub returns-in-WrongProblem-clause-short : goal.returns-in-WrongProblem-clause-short
returns-in-WrongProblem-clause-short g c =
    short_as g.E.Sink.holds c.args.err.now c.write_fragments.new.sink c.write_fragments.result _ _
    (wrong_problem_line c.in-WrongProblem.kept c.in-WrongProblem.given c.in-WrongProblem.place ∙ same_line _ _ c.in-WrongProblem.is) c.write_fragments.ensures.short

pub returns-in-Ahead-clause-whole : goal.returns-in-Ahead-clause-whole
returns-in-Ahead-clause-whole g c =
    whole_as g.E.Sink.holds c.args.err.now c.write_fragments-in-Ahead.new.sink c.write_fragments-in-Ahead.result _ _
    (ahead_line c.from.result c.from-in-Ahead.result c.in-Ahead.stored c.in-Ahead.target c.from.ensures c.from-in-Ahead.ensures ∙ same_line _ _ c.in-Ahead.is) c.write_fragments-in-Ahead.ensures.whole

pub returns-in-Ahead-clause-short : goal.returns-in-Ahead-clause-short
returns-in-Ahead-clause-short g c =
    short_as g.E.Sink.holds c.args.err.now c.write_fragments-in-Ahead.new.sink c.write_fragments-in-Ahead.result _ _
    (ahead_line c.from.result c.from-in-Ahead.result c.in-Ahead.stored c.in-Ahead.target c.from.ensures c.from-in-Ahead.ensures ∙ same_line _ _ c.in-Ahead.is) c.write_fragments-in-Ahead.ensures.short
