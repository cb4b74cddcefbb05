use Rattle.amr_checkpoint.proofs.Going.{goes_on_or_refuses, not_both, not_both_shown, refuses_once, shows_or_refuses}
use Rattle.amr_checkpoint.proofs.laws.run_goes_on_or_is_refused.Goals as goal

pub returns : goal.returns
returns c = record { either = goes_on_or_refuses; not_both = not_both; once = refuses_once; shown = shows_or_refuses; not_both_shown = not_both_shown }
