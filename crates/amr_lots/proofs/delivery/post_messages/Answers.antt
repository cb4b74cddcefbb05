use Rattle.std.proofs.Common.{length, ap, ◌∙◌}
use Rattle.amr_lots.proofs.Messages.{posted, refilled}
use Rattle.amr_lots.proofs.delivery.post_messages.Goals as goal

pub returns : goal.returns
returns c =
    let sent = c.take_outbox-outbox.result in
    posted c.args.from c.args.lots.now c.requires.there c.requires.boxes
    c.index-lots-from.result c.take_outbox-outbox.new.lot sent c.take_outbox-outbox.ensures.taken c.take_outbox-outbox.ensures.others
    c.deref_mut.result.now c.trade_messages.new.messages c.deref_mut.ensures.value c.trade_messages.new.lots c.trade_messages.ensures
    c.index-lots-from-2.result c.give_outbox.new.lot _ (refilled sent.len sent.items c.trade_messages.new.messages sent.ok.0 (c.trade_messages.ensures.messages ∙ ap length c.deref_mut.ensures.value)) c.give_outbox.ensures
