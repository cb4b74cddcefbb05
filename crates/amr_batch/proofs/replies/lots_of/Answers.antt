use Rattle.std.proofs.Common.{refl}
use Rattle.amr_batch.proofs.LotTasks.{one_more_lot}
use Rattle.amr_batch.proofs.replies.lots_of.Goals as goal

pub loop-numbers-preserved : goal.loop-numbers-preserved
loop-numbers-preserved g c n h = one_more_lot n c.loop-numbers.yielded c.in-Some.numbers c.loop-numbers.lots.items c.push.new.self.items _ c.in_ok-push.ensures.items refl (c.loop-numbers.invariant n) h
