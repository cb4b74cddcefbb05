use Rattle.std.proofs.Common.{◌∙◌, [], sym}
use Rattle.amr_run.proofs.batch.LoneWorker.line_of.Goals as goal

pub returns-in-Ok : goal.returns-in-Ok
returns-in-Ok g c = c.into_bytes.ensures.held ∙ sym (c.in-Ok.ensures.whole [] c.make-page.ensures.told)
