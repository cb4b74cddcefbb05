use Rattle.std.proofs.Common.{◌≡◌, ◌+◌, ◌^◌, min, take}
use Rattle.amr_phase.specs.Plans.{added, total}
use Rattle.amr_phase.proofs.plan.total_more.Given as goal

abbrev pub invariant-loop-add : goal.invariant-loop-add
invariant-loop-add l = l.sum ≡ min (l.fn.before + total (added l.word) (take l.add-index l.adds)) (2 ^ 63)
