use Rattle.amr_def.specs.Tags.{is_tagged}
use Rattle.amr_def.specs.Regrid.{regrid}
use Rattle.amr_laws.proofs.Kept.{masses_keep}
use Rattle.amr_laws.proofs.regrid_keeps_masses.Goals as goal

pub returns-clause-by_its_tags : goal.returns-clause-by_its_tags
unfolding regrid
returns-clause-by_its_tags c = λ p s. masses_keep p (is_tagged p s) s

pub returns-clause-by_any_tags : goal.returns-clause-by_any_tags
returns-clause-by_any_tags c = masses_keep
