use Rattle.amr_register.proofs.Changed.{AreChanged}
use Rattle.amr_register.proofs.NetLists.{IsFound}
use Rattle.amr_register.proofs.edges.find_nets_of_all.Given as goal

abbrev pub invariant-loop-k : goal.invariant-loop-k
invariant-loop-k l = AreChanged (IsFound l.p l.l l.patches) l.initial.lists l.lists l.k
