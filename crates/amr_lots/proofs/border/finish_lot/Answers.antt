use Rattle.amr_lots.proofs.SteppedBoxes.{stepped_sends}
use Rattle.amr_lots.proofs.border.finish_lot.Goals as goal

pub send-requires : goal.send-requires
send-requires c = stepped_sends c.args.p.now c.args.l c.args.lot.now c.update_border.new.lot c.requires.borders.0.count c.update_border.ensures c.requires.sends

pub returns : goal.returns
returns c = record { stepped = c.update_border.new.lot; steps = c.update_border.ensures; sends = c.send.ensures }
