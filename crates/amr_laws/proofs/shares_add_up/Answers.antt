use Rattle.amr_def.proofs.Nests.{shares_sum}
use Rattle.amr_laws.proofs.shares_add_up.Goals as goal

pub returns : goal.returns
returns c = shares_sum
