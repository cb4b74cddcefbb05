use Rattle.amr_laws.proofs.OneSpecies.{species_step-boxes, species_step-sound}
use Rattle.amr_laws.proofs.species.species_step_keeps_sound.Goals as goal

pub returns-clause-sound : goal.returns-clause-sound
returns-clause-sound c = species_step-sound

pub returns-clause-boxes : goal.returns-clause-boxes
returns-clause-boxes c = species_step-boxes
