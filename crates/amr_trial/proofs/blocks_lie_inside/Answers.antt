use Rattle.amr_trial.proofs.Inside.{blocks_inside}
use Rattle.amr_trial.proofs.blocks_lie_inside.Goals as goal

pub returns : goal.returns
returns c = blocks_inside
