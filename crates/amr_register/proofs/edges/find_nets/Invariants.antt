use Rattle.amr_register.specs.EdgeCells.{HasNet, IsSmallNet}
use Rattle.amr_register.proofs.Changed.{AreChanged}
use Rattle.amr_register.proofs.edges.find_nets.Given as goal

abbrev pub invariant-loop-k : goal.invariant-loop-k
invariant-loop-k l = AreChanged (λ k a b. HasNet l.p l.l l.patch a b × IsSmallNet b) l.initial.edges l.edges l.k
