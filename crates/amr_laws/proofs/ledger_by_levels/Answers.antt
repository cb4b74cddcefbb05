use Rattle.amr_laws.proofs.LedgerLevels.{inflow_levels, outflow_levels}
use Rattle.amr_laws.proofs.ledger_by_levels.Goals as goal

pub returns-clause-inflow : goal.returns-clause-inflow
returns-clause-inflow c = inflow_levels

pub returns-clause-outflow : goal.returns-clause-outflow
returns-clause-outflow c = outflow_levels
