use Rattle.amr_flows.proofs.SubcycleSteps.{of_finer_steps, of_level_alone}
use Rattle.amr_flows.proofs.flows_are_of_finer_steps.Goals as goal

pub returns-clause-finer : goal.returns-clause-finer
returns-clause-finer c = of_finer_steps

pub returns-clause-alone : goal.returns-clause-alone
returns-clause-alone c = of_level_alone
