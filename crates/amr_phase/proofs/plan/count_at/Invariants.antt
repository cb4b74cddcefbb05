use Rattle.std.proofs.Common.{◌≡◌, min, take}
use Rattle.amr_phase.specs.declared.plan.Task.{Task}
use Rattle.amr_phase.specs.Plans.{named, total}
use Rattle.amr_phase.proofs.plan.count_at.Given as goal

abbrev pub invariant-loop-task : goal.invariant-loop-task
invariant-loop-task l = l.found ≡ min (total (λ (t : Task). total (named l.place) t.puts) (take l.task-index l.all)) 2
