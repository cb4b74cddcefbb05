use Rattle.amr_def.proofs.SoundStep.{step-sound}
use Rattle.amr_def.proofs.laws.step_keeps_sound.Goals as goal

pub returns : goal.returns
returns c = step-sound
