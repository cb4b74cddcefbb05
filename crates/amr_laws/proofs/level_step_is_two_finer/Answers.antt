use Rattle.amr_laws.proofs.Substeps.{two_finer}
use Rattle.amr_laws.proofs.level_step_is_two_finer.Goals as goal

pub returns : goal.returns
returns c = two_finer
