use Rattle.std.proofs.Common.{[], refl}
use Rattle.amr_causes.proofs.ByteLaws.{grows_none}
use Rattle.amr_run.specs.Table.{check_row}
use Rattle.amr_run.specs.Texts.{problem_line}
use Rattle.amr_run.proofs.Outcomes.{cut_short, is_line_of_problem, refused_by, unread}
use Rattle.amr_run.proofs.commands.check.Goals as goal

pub returns-in_err-given-clause-outcome : goal.returns-in_err-given-clause-outcome
returns-in_err-given-clause-outcome g c =
    let read = c.in_err-given.ensures.problem in
    (read.0, ([], read.1, grows_none g.O.Sink.holds c.args.out.now, λ seen. refused_by check_row c.from_residual.result _ read.0 seen [] [] c.from_residual.ensures.1 (unread check_row _ read.0 seen tt read.2)))

pub returns-in_err-put_problem-clause-outcome : goal.returns-in_err-put_problem-clause-outcome
returns-in_err-put_problem-clause-outcome g c =
    let read = c.in_ok-given.ensures.problem in
    let part = c.in_err-put_problem.ensures.short in
    (read.0, (part.0, read.1, part.2, λ seen. cut_short check_row c.from_residual-in_err-put_problem.result read.0 seen (problem_line c.in_ok-given.given.problem) part.0 c.from_residual-in_err-put_problem.ensures.1 (is_line_of_problem read.0 c.in_ok-given.given.problem read.2.1, refl) part.1))

pub returns-clause-outcome : goal.returns-clause-outcome
returns-clause-outcome g c =
    let read = c.in_ok-given.ensures.problem in
    (read.0, (problem_line c.in_ok-given.given.problem, read.1, c.in_ok-put_problem.ensures.whole, λ seen. (is_line_of_problem read.0 c.in_ok-given.given.problem read.2.1, refl)))
