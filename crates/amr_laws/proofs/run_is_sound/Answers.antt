use Rattle.amr_def.proofs.SoundRun.{run-sound}
use Rattle.amr_laws.proofs.SoundRegrid.{regrid-sound}
use Rattle.amr_laws.proofs.run_is_sound.Goals as goal

pub returns : goal.returns
returns c = λ p. run-sound p (regrid-sound p)
