use Rattle.amr_cli.proofs.Causes.{two_causes}
use Rattle.amr_cli.proofs.laws.usage_has_no_other_cause.Goals as goal

pub returns : goal.returns
returns c = two_causes
