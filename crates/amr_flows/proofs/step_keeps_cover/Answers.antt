use Rattle.amr_flows.proofs.SubcycleSteps.{keeps_cover}
use Rattle.amr_flows.proofs.step_keeps_cover.Goals as goal

pub returns : goal.returns
returns c = keeps_cover
