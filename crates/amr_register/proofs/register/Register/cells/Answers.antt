use Rattle.amr_register.specs.Fields.{cells_in}
use Rattle.amr_register.proofs.register.Register.cells.Goals as goal

pub returns : goal.returns
unfolding cells_in
returns c = c.as_slice.ensures.value
