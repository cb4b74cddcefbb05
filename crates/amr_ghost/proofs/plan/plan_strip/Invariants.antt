use Rattle.std.proofs.Common.{◌-◌, ◌≤◌}
use Rattle.std.specs.List.{All}
use Rattle.amr_def.specs.Domain.{domain}
use Rattle.amr_ghost.specs.Plans.{HaveStrip, IsSpan, KeepSpans}
use Rattle.amr_ghost.proofs.plan.plan_strip.Given as goal

abbrev pub invariant-loop-done : goal.invariant-loop-done
invariant-loop-done l = record {
  within : l.done ≤ l.strip.count;
  spans : All (IsSpan (domain l.p l.target.level) l.patches) l.spans.items;
  kept : KeepSpans l.fn.spans.items l.spans.items;
  made : HaveStrip l.spans.items l.target.patch l.strip.axis l.strip.from l.done;
}

abbrev pub decreases-loop-done : goal.decreases-loop-done
decreases-loop-done l = l.strip.count - l.done
