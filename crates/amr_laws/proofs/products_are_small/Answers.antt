use Rattle.amr_laws.proofs.Products.{products-small}
use Rattle.amr_laws.proofs.products_are_small.Goals as goal

pub returns : goal.returns
returns c = products-small
