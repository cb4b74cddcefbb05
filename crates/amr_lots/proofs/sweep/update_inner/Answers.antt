use Rattle.std.proofs.Common.{sym}
use Rattle.amr_lots.specs.LotSteps.{ReadsNone, ReadsSome}
use Rattle.amr_lots.proofs.LotParts.{may_lent, stepped_lot}
use Rattle.amr_lots.proofs.sweep.update_inner.Goals as goal

pub step_inner-requires : goal.step_inner-requires
step_inner-requires c = may_lent c.args.p.now c.args.l c.args.lot.now c.deref_mut.result.now c.deref_mut.ensures.value c.deref.result.now c.deref.ensures.value ReadsNone c.requires

pub returns : goal.returns
returns c =
    stepped_lot c.args.p.now c.args.l c.args.lot.now c.deref_mut.result.now c.deref_mut.ensures.value c.deref.result.now c.deref.ensures.value
    ReadsNone ReadsSome c.step_inner.new.patches c.step_inner.new.room (sym c.step_inner.auto.patches) c.step_inner.ensures.stepped c.step_inner.ensures.room
