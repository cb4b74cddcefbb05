use Rattle.amr_laws.proofs.GridSize.{plot_same}
use Rattle.amr_laws.proofs.plot_ignores_grid_size.Goals as goal

pub returns : goal.returns
returns c = plot_same
