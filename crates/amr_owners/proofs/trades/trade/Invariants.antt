use Rattle.amr_owners.proofs.Trading.{HaveTradedTo}
use Rattle.amr_owners.proofs.trades.trade.Given as goal

abbrev pub invariant-loop-k : goal.invariant-loop-k
invariant-loop-k g l = HaveTradedTo l.numbers l.k l.fn.items l.fn.list l.items l.list
