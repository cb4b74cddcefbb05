use Rattle.std.proofs.Common.{sym}
use Rattle.amr_lots.specs.LotSteps.{ReadsNone, ReadsSome}
use Rattle.amr_lots.proofs.LotParts.{may_lent, sizes_lent, stepped_lot}
use Rattle.amr_lots.proofs.border.update_border.Goals as goal

pub step_border-requires-clause-steps : goal.step_border-requires-clause-steps
step_border-requires-clause-steps c = may_lent c.args.p.now c.args.l c.args.lot.now c.deref_mut.result.now c.deref_mut.ensures.value c.deref.result.now c.deref.ensures.value ReadsSome c.requires.0

pub step_border-requires-clause-sizes : goal.step_border-requires-clause-sizes
step_border-requires-clause-sizes c =
    sizes_lent c.args.p.now c.args.l c.args.lot.now c.deref_mut.result.now c.deref_mut.ensures.value c.deref.result.now c.deref.ensures.value c.deref-2.result.now c.deref-2.ensures.value c.requires.1

pub returns : goal.returns
returns c =
    stepped_lot c.args.p.now c.args.l c.args.lot.now c.deref_mut.result.now c.deref_mut.ensures.value c.deref.result.now c.deref.ensures.value
    ReadsSome ReadsNone c.step_border.new.patches c.step_border.new.room (sym c.step_border.auto.patches) c.step_border.ensures.stepped c.step_border.ensures.room
