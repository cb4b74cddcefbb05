use Rattle.amr_laws.proofs.Held.{regrid-held}
use Rattle.amr_laws.proofs.regrid_holds_tags.Goals as goal

pub returns : goal.returns
returns c = regrid-held
