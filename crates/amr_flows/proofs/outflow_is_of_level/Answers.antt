use Rattle.amr_flows.proofs.LedgerFlows.{outflow_of_level}
use Rattle.amr_flows.proofs.outflow_is_of_level.Goals as goal

pub returns : goal.returns
returns c = outflow_of_level
