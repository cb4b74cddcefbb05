use Rattle.std.proofs.Common.{sym, subst, arith}
use Rattle.amr_cycle.specs.Cycles.{AreCoarsenableAbove}
use Rattle.amr_tests_steps.proofs.cycle.start_of.Goals as goal

pub returns-clause-coarsenable : goal.returns-clause-coarsenable
returns-clause-coarsenable c = subst AreCoarsenableAbove (sym c.in_ok-mesh.ensures.patches.alone) (λ n d lt. absurd (omega (arith, lt)))
