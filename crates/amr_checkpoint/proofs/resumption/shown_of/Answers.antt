use Rattle.std.proofs.Common.{ap}
use Rattle.amr_store.specs.Stands.{problem_in}
use Rattle.amr_checkpoint.specs.Checkpoints.{content_of}
use Rattle.amr_checkpoint.proofs.resumption.shown_of.Goals as goal

pub returns-clause-holds : goal.returns-clause-holds
returns-clause-holds c = (problem_in c.in-At.field-0, ap content_of c.in-At.is)
