use Rattle.amr_laws.proofs.FlockRegrid.{regrid_all-alike, regrid_all-held}
use Rattle.amr_laws.proofs.species.regrid_all_keeps_alike.Goals as goal

pub returns-clause-alike : goal.returns-clause-alike
returns-clause-alike c = regrid_all-alike

pub returns-clause-tags : goal.returns-clause-tags
returns-clause-tags c = regrid_all-held
