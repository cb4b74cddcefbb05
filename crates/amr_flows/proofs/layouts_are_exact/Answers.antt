use Rattle.amr_flows.proofs.Layouts as layouts
use Rattle.amr_flows.proofs.layouts_are_exact.Goals as goal

pub returns : goal.returns
returns c = layouts.layouts_are_exact
