use Rattle.std.proofs.Common.{◌≡◌, take}
use Rattle.amr_problem.proofs.problem.numerators.Given as goal

abbrev pub invariant-loop-number : goal.invariant-loop-number
invariant-loop-number l = l.numerators.items ≡ take l.number-index l.numbers
