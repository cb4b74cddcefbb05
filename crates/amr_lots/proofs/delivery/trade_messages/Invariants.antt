use Rattle.amr_lots.proofs.Trading.{AreTradedTo}
use Rattle.amr_lots.proofs.delivery.trade_messages.Given as goal

-- the messages for the lots before this one are exchanged
abbrev pub invariant-loop-to : goal.invariant-loop-to
invariant-loop-to l = AreTradedTo l.to l.from l.initial.messages l.messages l.initial.lots l.lots
