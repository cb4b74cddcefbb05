use Rattle.std.proofs.Common.{length}
use Rattle.amr_lots.proofs.exchange.+exchange_runs.Given as goal

abbrev pub decreases-exchange_runs : goal.decreases-exchange_runs
decreases-exchange_runs l = length l.lots.now
