use Rattle.amr_laws.proofs.Steps.{beside}
use Rattle.amr_laws.proofs.registers_lie_beside_covered.Goals as goal

pub returns : goal.returns
returns c = beside
