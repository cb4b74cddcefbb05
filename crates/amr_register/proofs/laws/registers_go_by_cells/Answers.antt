use Rattle.amr_register.proofs.SameCells.{same_register}
use Rattle.amr_register.proofs.laws.registers_go_by_cells.Goals as goal

pub returns : goal.returns
returns c = same_register
