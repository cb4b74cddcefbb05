use Rattle.std.proofs.Common.{[], ◌+◌, subst, sym, ◌∙◌, ap}
use Rattle.amr_balance.specs.Shares.{lists_in}
use Rattle.amr_balance.proofs.SoFar.{AreEmpty, one_more_empty, lists_push}
use Rattle.amr_balance.proofs.empty_lots.Goals as goal

pub loop-preserved : goal.loop-preserved
loop-preserved c =
    subst (AreEmpty (c.loop.counter + 1)) (sym (ap lists_in c.in_ok-push.ensures.items ∙ lists_push c.loop.lots.items c.new.result [] c.new.ensures.items))
    (one_more_empty c.loop.counter (lists_in c.loop.lots.items) c.loop.invariant)
