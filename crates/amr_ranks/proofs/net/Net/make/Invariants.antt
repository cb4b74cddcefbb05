use Rattle.std.proofs.Common.{◌≡◌}
use Rattle.std.specs.Prelude.{map}
use Rattle.std.specs.List.{range_with_len}
use Rattle.amr_ranks.specs.Letters.{numbers_to}
use Rattle.amr_ranks.specs.Nodes.{fresh_node}
use Rattle.amr_ranks.proofs.net.Net.make.Given as goal

abbrev pub invariant-loop-rank : goal.invariant-loop-rank
invariant-loop-rank l = l.nodes.items ≡ map (λ r. fresh_node r (numbers_to r l.letters.items) l.words l.cells) (range_with_len 0 l.rank)
