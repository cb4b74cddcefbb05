use Rattle.amr_def.proofs.OneStep.{new_mass-exact}
use Rattle.amr_def.proofs.laws.new_mass_is_exact.Goals as goal

pub returns : goal.returns
returns c = new_mass-exact
