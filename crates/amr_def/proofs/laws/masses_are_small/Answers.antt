use Rattle.amr_def.proofs.OneStep.{masses-small}
use Rattle.amr_def.proofs.laws.masses_are_small.Goals as goal

pub returns : goal.returns
returns c = masses-small
