use Rattle.amr_ranks.proofs.Slices.{RisesTo}
use Rattle.amr_ranks.proofs.parts.rises.Given as goal

abbrev pub invariant-loop-i : goal.invariant-loop-i
invariant-loop-i l = RisesTo l.cells l.i
