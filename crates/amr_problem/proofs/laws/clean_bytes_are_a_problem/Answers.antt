use Rattle.amr_problem.proofs.CleanBytes.{is_problem}
use Rattle.amr_problem.proofs.laws.clean_bytes_are_a_problem.Goals as goal

pub returns : goal.returns
returns c bytes clean = is_problem bytes clean
