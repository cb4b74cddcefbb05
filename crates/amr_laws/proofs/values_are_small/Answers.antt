use Rattle.amr_laws.proofs.Products.{values-small}
use Rattle.amr_laws.proofs.values_are_small.Goals as goal

pub returns : goal.returns
returns c = values-small
