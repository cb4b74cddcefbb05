use Rattle.amr_flows.proofs.LedgerFlows.{inflow_of_level}
use Rattle.amr_flows.proofs.inflow_is_of_level.Goals as goal

pub returns : goal.returns
returns c = inflow_of_level
