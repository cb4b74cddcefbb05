use Rattle.std.proofs.Common.{◌≡◌, [], replicate}
use Rattle.amr_register.specs.EdgeCells.{lists_of}
use Rattle.amr_register.proofs.edge_lists.no_lists.Given as goal

abbrev pub invariant-loop : goal.invariant-loop
invariant-loop l = lists_of l.lists.items ≡ replicate l.counter []
