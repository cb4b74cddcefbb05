use Rattle.amr_laws.proofs.Registers.{by_registers}
use Rattle.amr_laws.proofs.level_step_by_registers.Goals as goal

pub returns : goal.returns
returns c = by_registers
