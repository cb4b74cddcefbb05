use Rattle.std.proofs.Common.{arith}
use Rattle.amr_lots.proofs.Trading.{all_traded, none_traded, one_more_traded, still_in_box}
use Rattle.amr_lots.proofs.delivery.trade_messages.Goals as goal

pub loop-to-init : goal.loop-to-init
loop-to-init c = none_traded c.args.from c.args.messages.now c.args.lots.now

pub trade_message-requires : goal.trade_message-requires
trade_message-requires c = still_in_box c.loop-to.to c.args.from c.args.messages.now c.loop-to.messages c.args.lots.now c.loop-to.lots c.loop-to.invariant c.index-lots-to.result c.loop-to-test.true c.requires.boxes

pub loop-to-preserved : goal.loop-to-preserved
loop-to-preserved c =
    one_more_traded c.loop-to.to c.args.from c.args.messages.now c.loop-to.messages c.args.lots.now c.loop-to.lots c.loop-to.invariant
    c.index-messages-to.result c.trade_message.new.message c.index-lots-to.result c.trade_message.new.lot (omega (arith, c.loop-to-test.true, c.requires.count)) c.loop-to-test.true c.trade_message.ensures

pub returns : goal.returns
returns c = all_traded c.loop-to.to c.args.from c.args.messages.now c.loop-to.messages c.args.lots.now c.loop-to.lots c.loop-to.invariant (omega (arith, c.loop-to-test.false))
