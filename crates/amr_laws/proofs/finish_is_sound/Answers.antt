use Rattle.amr_def.proofs.SoundRun.{finish-sound}
use Rattle.amr_laws.proofs.SoundRegrid.{regrid-sound}
use Rattle.amr_laws.proofs.finish_is_sound.Goals as goal

pub returns : goal.returns
returns c = λ p. finish-sound p (regrid-sound p)
