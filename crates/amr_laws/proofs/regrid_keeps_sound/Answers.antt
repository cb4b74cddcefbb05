use Rattle.amr_laws.proofs.SoundRegrid.{regrid-sound, regrid_by-sound}
use Rattle.amr_laws.proofs.FlockRegrid.{regrid_by-same_boxes}
use Rattle.amr_laws.proofs.regrid_keeps_sound.Goals as goal

pub returns-clause-by_its_tags : goal.returns-clause-by_its_tags
returns-clause-by_its_tags c = regrid-sound

pub returns-clause-by_any_tags : goal.returns-clause-by_any_tags
returns-clause-by_any_tags c = regrid_by-sound

pub returns-clause-same_boxes : goal.returns-clause-same_boxes
returns-clause-same_boxes c = regrid_by-same_boxes
