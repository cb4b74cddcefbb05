use Rattle.amr_checkpoint.proofs.Making.{holds_sound}
use Rattle.amr_checkpoint.proofs.laws.stored_state_is_sound.Goals as goal

pub returns : goal.returns
returns c = holds_sound
