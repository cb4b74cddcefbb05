use Rattle.amr_flows.proofs.SubcycleLedger as ledger
use Rattle.amr_flows.proofs.flows_fit.Goals as goal

pub returns : goal.returns
returns c = ledger.flows_fit
