use Rattle.std.specs.Prelude.{slice_index_or}
use Rattle.amr_register.specs.CoarseFlows.{net_owned}
use Rattle.amr_register.proofs.Taken.{AreTaken, no_cell, no_sides}
use Rattle.amr_register.proofs.flows.take_away.Given as goal

abbrev pub invariant-loop-k : goal.invariant-loop-k
invariant-loop-k l = AreTaken (λ k. net_owned l.p l.l l.patch (slice_index_or l.edge.sides.now k no_sides) (slice_index_or l.edge.cells.now k no_cell)) l.initial.entries l.entries l.k
