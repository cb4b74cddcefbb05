use Rattle.amr_trial.proofs.Problems.{sixteen_steps}
use Rattle.amr_trial.proofs.trials_have_sixteen_steps.Goals as goal

pub returns : goal.returns
returns c = sixteen_steps
