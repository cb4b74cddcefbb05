use Rattle.std.proofs.Common.{◌-◌, List, length}
use Rattle.amr_def.specs.declared.problem.Problem.{Problem}
use Rattle.amr_def.specs.State.{Level}
use Rattle.amr_cycle.specs.KeptLevels.{AreKept}
use Rattle.amr_cycle.proofs.kept.make_room.Given as goal

abbrev pub invariant-loop-levels : goal.invariant-loop-levels
invariant-loop-levels l = (p : Problem) (levels : List Level) → AreKept p 0 levels l.initial.levels.items → AreKept p 0 levels l.levels.items

abbrev pub decreases-loop-levels : goal.decreases-loop-levels
decreases-loop-levels l = l.count - length l.levels.items
