use Rattle.amr_def.proofs.OneStep.{mass_by_flows}
use Rattle.amr_def.proofs.laws.mass_changes_by_flows.Goals as goal

pub returns : goal.returns
returns c = mass_by_flows
