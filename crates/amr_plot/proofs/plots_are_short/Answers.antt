use Rattle.amr_plot.proofs.Lengths.{plot_short}
use Rattle.amr_plot.proofs.plots_are_short.Goals as goal

pub returns : goal.returns
returns c = plot_short
