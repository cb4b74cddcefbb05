use Rattle.amr_def.proofs.SoundRun.{start-sound}
use Rattle.amr_laws.proofs.SoundRegrid.{regrid-sound}
use Rattle.amr_laws.proofs.start_is_sound.Goals as goal

pub returns : goal.returns
returns c = λ p. start-sound p (regrid-sound p)
