use Rattle.amr_laws.proofs.Steps.{four_within}
use Rattle.amr_laws.proofs.four_fluxes_are_within_share.Goals as goal

pub returns : goal.returns
returns c = four_within
