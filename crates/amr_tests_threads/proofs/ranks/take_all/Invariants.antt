use Rattle.std.proofs.Common.{◌≡◌, ◌*◌, ◌≤◌, List, [], length, get_or}
use Rattle.amr_tests_threads.proofs.ranks.take_all.Given as goal

-- each letter adds less than 256
abbrev pub invariant-loop-letter : goal.invariant-loop-letter
invariant-loop-letter g l = record {
  rank : l.node.rank ≡ 0;
  cells : l.node.cells ≡ [];
  words : length l.node.totals ≡ 1;
  small : get_or l.node.totals 0 0 ≤ 255 * l.letter-index;
}
