use Rattle.std.proofs.Common.{length}
use Rattle.amr_lots.proofs.exchange.+exchange_edges.Given as goal

abbrev pub decreases-exchange_edges : goal.decreases-exchange_edges
decreases-exchange_edges l = length l.lots.now
