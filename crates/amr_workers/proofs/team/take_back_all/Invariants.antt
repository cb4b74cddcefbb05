use Rattle.amr_workers.specs.Asked.{Keeps}
use Rattle.amr_workers.specs.Orders.{Serves}
use Rattle.amr_workers.proofs.Lists.{AreChanged}
use Rattle.amr_workers.proofs.team.take_back_all.Given as goal

abbrev pub invariant-loop-k : goal.invariant-loop-k
invariant-loop-k g l = AreChanged (Keeps Serves) l.initial.asked l.asked l.k
