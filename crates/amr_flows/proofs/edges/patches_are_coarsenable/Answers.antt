use Rattle.amr_flows.proofs.Coarsenable.{all_coarsenable}
use Rattle.amr_flows.proofs.edges.patches_are_coarsenable.Goals as goal

pub returns : goal.returns
returns c = all_coarsenable
