use Rattle.amr_lots.proofs.Messages.{ArePostedTo}
use Rattle.amr_lots.proofs.delivery.exchange_messages.Given as goal

-- the messages of the lots before this one are posted
abbrev pub invariant-loop-from : goal.invariant-loop-from
invariant-loop-from l = ArePostedTo l.from l.initial.lots l.lots
