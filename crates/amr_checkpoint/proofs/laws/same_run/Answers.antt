use Rattle.amr_checkpoint.proofs.Progress.{checkpoints_run_on, same_run}
use Rattle.amr_checkpoint.proofs.laws.same_run.Goals as goal

pub returns : goal.returns
returns c = record { checkpoints = checkpoints_run_on; same = same_run }
