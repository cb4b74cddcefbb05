use Rattle.amr_register.specs.EdgeCells.{number_of}
use Rattle.amr_register.specs.Written.{AreWritten, by_number, without_net}
use Rattle.amr_register.proofs.edge_lists.take_list.Given as goal

abbrev pub invariant-loop-k : goal.invariant-loop-k
invariant-loop-k l = AreWritten number_of without_net l.list (by_number l.initial.entries) (by_number l.entries) l.k
