use Rattle.std.proofs.Common.{ap, inl, refl, subst, sym, Err}
use Rattle.amr_run.specs.Sources.{RefusesBy}
use Rattle.amr_run.specs.Table.{JudgesBatch}
use Rattle.amr_run.specs.declared.status.Status.{Status}
use Rattle.amr_run.specs.declared.status.Status.TheVariants.{BadBatch}
use Rattle.amr_run.proofs.Outcomes.{reading_refused}
use Rattle.amr_run.proofs.source.read_batch.Goals as goal

pub returns-in-Err-clause-batch : goal.returns-in-Err-clause-batch
returns-in-Err-clause-batch g c =
    let refused = reading_refused JudgesBatch 1048576 (BadBatch 1048576) (g.S.Source.left c.args.src.now) (g.S.Source.left c.read_all.new.src) c.in-Err.fault (λ bytes long. inl (long, refl)) (λ is. c.in-Err.ensures.too_long (ap Err is)) in
    (refused.0, refused.1, subst (λ (s : Status). RefusesBy JudgesBatch s refused.0) (sym c.batch_unread.ensures) refused.2)
