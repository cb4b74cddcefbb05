use Rattle.amr_cycle.proofs.kept.renew.Goals as goal

pub keep_masses-requires-clause-crew : goal.keep_masses-requires-clause-crew
keep_masses-requires-clause-crew g c κs within = c.requires.crew _
