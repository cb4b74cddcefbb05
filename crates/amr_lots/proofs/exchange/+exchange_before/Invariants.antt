use Rattle.std.proofs.Common.{length}
use Rattle.amr_lots.proofs.exchange.+exchange_before.Given as goal

abbrev pub decreases-exchange_before : goal.decreases-exchange_before
decreases-exchange_before l = length l.lots.now
