use Rattle.amr_laws.proofs.Substeps.{of_levels}
use Rattle.amr_laws.proofs.substeps_are_of_levels.Goals as goal

pub returns : goal.returns
returns c = of_levels
