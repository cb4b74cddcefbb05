use Rattle.amr_balance.specs.Shares.{lists_in}
use Rattle.amr_balance.proofs.SoFar.{IsSoFar}
use Rattle.amr_balance.proofs.share.Given as goal

-- the tasks so far are shared out
abbrev pub invariant-loop-k : goal.invariant-loop-k
invariant-loop-k l = IsSoFar l.areas l.workers l.k l.loads.items (lists_in l.lots.items)
