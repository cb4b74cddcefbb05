use Rattle.amr_laws.proofs.Steps.{exact}
use Rattle.amr_laws.proofs.level_step_is_exact.Goals as goal

pub returns : goal.returns
returns c = exact
