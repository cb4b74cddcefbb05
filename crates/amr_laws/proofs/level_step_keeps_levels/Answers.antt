use Rattle.amr_laws.proofs.Substeps.{gives_masses, keeps_boxes, keeps_levels}
use Rattle.amr_laws.proofs.level_step_keeps_levels.Goals as goal

pub returns-clause-levels : goal.returns-clause-levels
returns-clause-levels c = keeps_levels

pub returns-clause-boxes : goal.returns-clause-boxes
returns-clause-boxes c = keeps_boxes

pub returns-clause-masses : goal.returns-clause-masses
returns-clause-masses c = gives_masses
