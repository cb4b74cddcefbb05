use Rattle.amr_flows.proofs.SubcycleParts as parts
use Rattle.amr_flows.proofs.parts_taken_fit.Goals as goal

pub returns : goal.returns
returns c = parts.parts_taken_fit
