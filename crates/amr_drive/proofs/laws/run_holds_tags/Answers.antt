use Rattle.amr_drive.proofs.Finishes.{run_holds}
use Rattle.amr_drive.proofs.laws.run_holds_tags.Goals as goal

pub returns : goal.returns
returns c = run_holds
