use Rattle.amr_laws.proofs.GridSize.{run_same, run_all_same}
use Rattle.amr_laws.proofs.run_ignores_grid_size.Goals as goal

pub returns-clause-one : goal.returns-clause-one
returns-clause-one c = run_same

pub returns-clause-all : goal.returns-clause-all
returns-clause-all c = run_all_same
