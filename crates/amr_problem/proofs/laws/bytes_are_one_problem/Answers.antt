use Rattle.amr_problem.proofs.OneProblem.{one_problem}
use Rattle.amr_problem.proofs.laws.bytes_are_one_problem.Goals as goal

pub returns : goal.returns
returns c = one_problem
