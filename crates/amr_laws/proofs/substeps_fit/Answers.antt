use Rattle.amr_laws.proofs.Substeps.{fits}
use Rattle.amr_laws.proofs.substeps_fit.Goals as goal

pub returns : goal.returns
returns c = fits
