use Rattle.amr_cycle.proofs.kept.Kept.nothing.Goals as goal

pub returns : goal.returns
returns c = λ p levels. record { levels_kept = tt }
