use Rattle.amr_compare.proofs.states.+mass_at.Given as goal

abbrev pub decreases-mass_at : goal.decreases-mass_at
decreases-mass_at l = l.l
