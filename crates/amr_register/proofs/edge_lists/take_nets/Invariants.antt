use Rattle.amr_register.specs.EdgeCells.{lists_of, number_of}
use Rattle.amr_register.specs.Written.{AreAllWritten, by_number, without_net}
use Rattle.amr_register.proofs.edge_lists.take_nets.Given as goal

abbrev pub invariant-loop-k : goal.invariant-loop-k
invariant-loop-k l = AreAllWritten number_of without_net (lists_of l.lists) (by_number l.initial.entries) (by_number l.entries) l.k
