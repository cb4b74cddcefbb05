use Rattle.amr_def.proofs.Runs.{resumes}
use Rattle.amr_def.proofs.laws.finish_in_parts.Goals as goal

pub returns : goal.returns
returns c = resumes
