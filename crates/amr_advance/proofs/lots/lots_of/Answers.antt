use Rattle.std.proofs.Common.{◌∙◌, length, sym}
use Rattle.std.proofs.lemmas.Result.{IfOk-weaker}
use Rattle.amr_advance.proofs.MadeLots.{one_wanted}
use Rattle.amr_advance.proofs.lots.lots_of.Goals as goal

pub returns-then-wanted-lt2-clause-count : goal.returns-then-wanted-lt2-clause-count
returns-then-wanted-lt2-clause-count c = IfOk-weaker c.one_lot.result _ _ (λ t one some. one ∙ sym (one_wanted c.args.wanted (length c.args.s.patches.now) c.if-wanted-lt2.true some)) c.one_lot.ensures.one

pub returns-clause-count : goal.returns-clause-count
returns-clause-count c = IfOk-weaker c.several_lots.result _ _ (λ t count some. count) c.several_lots.ensures.count
