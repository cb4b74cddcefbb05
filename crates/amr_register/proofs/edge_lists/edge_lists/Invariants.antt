use Rattle.amr_register.specs.EdgeCells.{lists_of}
use Rattle.amr_register.proofs.ListsMade.{AreListed}
use Rattle.amr_register.proofs.edge_lists.edge_lists.Given as goal

abbrev pub invariant-loop-k : goal.invariant-loop-k
invariant-loop-k l = AreListed l.patches l.cells l.sides (lists_of l.lists.items) l.k
