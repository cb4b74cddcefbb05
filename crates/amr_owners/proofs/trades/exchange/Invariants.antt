use Rattle.amr_balance.specs.Shares.{lists_in}
use Rattle.amr_owners.proofs.Exchanging.{HaveExchangedTo}
use Rattle.amr_owners.proofs.trades.exchange.Given as goal

abbrev pub invariant-loop-rank : goal.invariant-loop-rank
invariant-loop-rank g l = HaveExchangedTo (lists_in l.numbers) l.rank l.fn.items (lists_in l.fn.lists) l.items (lists_in l.lists)
