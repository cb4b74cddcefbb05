use Rattle.std.proofs.Common.{◌≡◌, ◌+◌, min, take}
use Rattle.amr_phase.specs.Plans.{named, total}
use Rattle.amr_phase.proofs.plan.count_more.Given as goal

abbrev pub invariant-loop-put : goal.invariant-loop-put
invariant-loop-put l = l.found ≡ min (l.fn.before + total (named l.place) (take l.put-index l.puts)) 2
