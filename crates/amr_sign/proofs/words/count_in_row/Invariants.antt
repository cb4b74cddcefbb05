use Rattle.std.proofs.Common.{◌≡◌, ◌*◌, ◌&&◌}
use Rattle.std.specs.Prelude.{nat_le}
use Rattle.amr_sign.specs.Counts.{count_to}
use Rattle.amr_sign.specs.Words.{row_bit}
use Rattle.amr_sign.proofs.words.count_in_row.Given as goal

abbrev pub invariant-loop-k : goal.invariant-loop-k
invariant-loop-k l = l.count ≡ count_to (λ x. (nat_le l.low x && nat_le x l.high) && row_bit l.row x) (64 * l.k)
