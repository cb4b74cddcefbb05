use Rattle.amr_trial.proofs.Problems.{texts_are_accepted}
use Rattle.amr_trial.proofs.texts_are_accepted.Goals as goal

pub returns : goal.returns
returns c = texts_are_accepted
