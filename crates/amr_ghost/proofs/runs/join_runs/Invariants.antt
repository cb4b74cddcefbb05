use Rattle.std.proofs.Common.{ℕ, ◌*◌, List, length}
use Rattle.amr_def.specs.Domain.{Domain}
use Rattle.amr_patch.specs.declared.patches.Patch.{Patch}
use Rattle.amr_ghost.specs.Plans.{ArePlannedRuns, PlansRun}
use Rattle.amr_ghost.proofs.runs.join_runs.Given as goal

abbrev pub invariant-loop-run : goal.invariant-loop-run
invariant-loop-run l = (d : Domain) (ps : List Patch) (size : ℕ) → ArePlannedRuns d ps size l.yielded → PlansRun d ps 0 (length l.yielded * size) l.all.items
