use Rattle.amr_laws.proofs.Steps.{reflux}
use Rattle.amr_laws.proofs.reflux_is_effective_step.Goals as goal

pub returns : goal.returns
returns c = reflux
