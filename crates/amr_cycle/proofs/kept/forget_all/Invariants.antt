use Rattle.amr_cycle.proofs.KeptLaws.{HaveForgotten}
use Rattle.amr_cycle.proofs.kept.forget_all.Given as goal

abbrev pub invariant-loop-k : goal.invariant-loop-k
invariant-loop-k l = HaveForgotten l.fn.kept l.kept l.k
