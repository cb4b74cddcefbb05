use Rattle.std.proofs.Common.{arith}
use Rattle.amr_lots.proofs.Messages.{all_kept, next_posted, none_posted, still_boxes}
use Rattle.amr_lots.proofs.delivery.exchange_messages.Goals as goal

pub loop-from-init : goal.loop-from-init
loop-from-init c = none_posted c.args.lots.now

pub post_messages-requires-clause-boxes : goal.post_messages-requires-clause-boxes
post_messages-requires-clause-boxes c = still_boxes c.loop-from.from c.args.lots.now c.loop-from.lots c.loop-from.invariant c.requires.boxes

pub loop-from-preserved : goal.loop-from-preserved
loop-from-preserved c = next_posted c.loop-from.from c.args.lots.now c.loop-from.lots c.loop-from.invariant c.post_messages.new.lots c.loop-from-test.true c.post_messages.ensures

pub returns-clause-delivered : goal.returns-clause-delivered
returns-clause-delivered c = λ u t x m lt lt'. c.loop-from.invariant.delivered u t x m (omega (arith, lt, c.loop-from-test.false)) lt'

pub returns-clause-back : goal.returns-clause-back
returns-clause-back c = λ u t x m lt lt'. c.loop-from.invariant.back u t x m (omega (arith, lt, c.loop-from-test.false)) lt'

pub returns-clause-others : goal.returns-clause-others
returns-clause-others c = all_kept c.loop-from.from c.args.lots.now c.loop-from.lots c.loop-from.invariant
