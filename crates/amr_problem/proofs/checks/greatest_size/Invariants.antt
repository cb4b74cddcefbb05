use Rattle.std.proofs.Common.{◌≡◌, max, drop}
use Rattle.amr_def.specs.Limits.{greatest_size}
use Rattle.amr_problem.proofs.checks.greatest_size.Given as goal

abbrev pub invariant-loop-number : goal.invariant-loop-number
invariant-loop-number l = max l.greatest (greatest_size (drop l.number-index l.numbers)) ≡ greatest_size l.numbers
