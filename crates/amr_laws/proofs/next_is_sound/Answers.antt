use Rattle.amr_def.proofs.SoundRun.{next-sound}
use Rattle.amr_laws.proofs.SoundRegrid.{regrid-sound}
use Rattle.amr_laws.proofs.next_is_sound.Goals as goal

pub returns : goal.returns
returns c = λ p. next-sound p (regrid-sound p)
