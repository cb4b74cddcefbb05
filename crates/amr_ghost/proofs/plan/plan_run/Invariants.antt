use Rattle.std.proofs.Common.{ℕ, ◌<◌, ◌≤◌}
use Rattle.std.specs.List.{All}
use Rattle.amr_def.specs.Domain.{domain}
use Rattle.amr_ghost.specs.Plans.{HaveFrame, IsSpan}
use Rattle.amr_ghost.proofs.plan.plan_run.Given as goal

abbrev pub invariant-loop-i : goal.invariant-loop-i
invariant-loop-i l = record {
  spans : All (IsSpan (domain l.p l.first.level) l.patches) l.spans.items;
  frames : (k : ℕ) → l.first.patch ≤ k → k < l.i → HaveFrame l.patches l.spans.items k;
}
