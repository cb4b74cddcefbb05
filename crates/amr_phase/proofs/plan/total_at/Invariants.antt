use Rattle.std.proofs.Common.{◌≡◌, ◌^◌, min, take}
use Rattle.amr_phase.specs.declared.plan.Task.{Task}
use Rattle.amr_phase.specs.Plans.{added, total}
use Rattle.amr_phase.proofs.plan.total_at.Given as goal

abbrev pub invariant-loop-task : goal.invariant-loop-task
invariant-loop-task l = l.sum ≡ min (total (λ (t : Task). total (added l.word) t.adds) (take l.task-index l.all)) (2 ^ 63)
