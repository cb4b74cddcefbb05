use Rattle.amr_drive.proofs.StartLaws.{start-holds_tags}
use Rattle.amr_drive.proofs.laws.start_holds_tags.Goals as goal

pub returns : goal.returns
returns c = start-holds_tags
