use Rattle.std.proofs.Common.{◌≡◌, pos, map, take}
use Rattle.amr_problem.proofs.problem.thresholds.Given as goal

abbrev pub invariant-loop-number : goal.invariant-loop-number
invariant-loop-number l = map pos l.tag.items ≡ take l.number-index l.numbers
