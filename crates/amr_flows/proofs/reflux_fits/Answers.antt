use Rattle.amr_flows.proofs.SubcycleSizes as sizes
use Rattle.amr_flows.proofs.reflux_fits.Goals as goal

pub returns : goal.returns
returns c = sizes.reflux_fits
