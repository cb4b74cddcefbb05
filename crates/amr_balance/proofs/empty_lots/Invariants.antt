use Rattle.amr_balance.specs.Shares.{lists_in}
use Rattle.amr_balance.proofs.SoFar.{AreEmpty}
use Rattle.amr_balance.proofs.empty_lots.Given as goal

-- as many empty lots as turns were made
abbrev pub invariant-loop : goal.invariant-loop
invariant-loop l = AreEmpty l.counter (lists_in l.lots.items)
