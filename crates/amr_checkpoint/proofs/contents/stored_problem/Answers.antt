use Rattle.std.proofs.Common.{◌∙◌, Err, ap, sym}
use Rattle.std.proofs.lemmas.Option.{none-some}
use Rattle.amr_checkpoint.proofs.Readings.{several_unstorable}
use Rattle.amr_checkpoint.proofs.contents.stored_problem.Goals as goal

pub returns-then-problem-eq1-clause-some : goal.returns-then-problem-eq1-clause-some
returns-then-problem-eq1-clause-some c = record { accepted = c.in-Ok.ensures.accepted; alone = c.if-problem-eq1.true }

pub returns-else-problem-eq1-clause-none : goal.returns-else-problem-eq1-clause-none
returns-else-problem-eq1-clause-none c none = several_unstorable c.args.bytes.now c.in-Ok.problem c.in-Ok.ensures.accepted c.if-problem-eq1.false

pub returns-in-Err-Fault-clause-none : goal.returns-in-Err-Fault-clause-none
returns-in-Err-Fault-clause-none c none p is =
    none-some c.in-Err-Fault._fault (sym is.accepted.clean ∙ c.in-Err-Fault.ensures.refused c.in-Err-Fault._fault (ap Err c.in-Err-Fault.field-0-is))
