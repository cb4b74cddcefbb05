use Rattle.std.proofs.Common.{ap, Err}
use Rattle.amr_problem.proofs.PlainLaws.{too_many_bytes}
use Rattle.amr_problem.specs.declared.fault.ProblemFault.TheVariants.{TooLong}
use Rattle.amr_run.specs.Sources.{IsProblemRead}
use Rattle.amr_run.specs.Table.{JudgesProblem}
use Rattle.amr_run.specs.declared.status.Status.TheVariants.{Problem}
use Rattle.amr_run.proofs.Outcomes.{reading_refused, reads_refused}
use Rattle.amr_run.proofs.source.read_problem.Goals as goal

pub returns-in_err-bytes-clause-problem : goal.returns-in_err-bytes-clause-problem
returns-in_err-bytes-clause-problem g c =
    let refused = reading_refused JudgesProblem 65536 (Problem TooLong) (g.S.Source.left c.args.src.now) (g.S.Source.left c.read_all.new.src) c.in_err-bytes.field-0.0 too_many_bytes (λ is. c.in_err-bytes.ensures.too_long (ap Err is)) in
    (refused.0, refused.1, reads_refused JudgesProblem IsProblemRead c.from_residual.result _ refused.0 c.from_residual.ensures.1 refused.2)
