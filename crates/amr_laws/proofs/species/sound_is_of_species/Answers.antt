use Rattle.amr_laws.proofs.OneSpecies.{sound_of_species, sound_by_species}
use Rattle.amr_laws.proofs.species.sound_is_of_species.Goals as goal

pub returns : goal.returns
returns c = λ p k s. (sound_of_species p k s, sound_by_species p k s)
