use Rattle.std.proofs.Common.{◌≡◌, ◌+◌, length, decimal}
use Rattle.amr_io.proofs.digits.count_digits.Given as goal

-- the digits of what is left, and those after them
abbrev pub invariant-loop-left : goal.invariant-loop-left
invariant-loop-left l = length (decimal l.left) + l.after ≡ length (decimal l.n)

abbrev pub decreases-loop-left : goal.decreases-loop-left
decreases-loop-left l = l.left
