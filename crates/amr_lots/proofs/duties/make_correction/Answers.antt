use Rattle.std.proofs.Common.{rules}
use Rattle.amr_lots.proofs.Sending.{corrected_sends, made_correction}
use Rattle.amr_lots.proofs.duties.make_correction.Goals as goal

pub send-requires : goal.send-requires
send-requires c = search (rules, corrected_sends, c.requires.corrects, c.requires.sends)

pub returns : goal.returns
returns c = search (rules, made_correction)
