use Rattle.std.proofs.Common.{sym, subst}
use Rattle.amr_board.specs.Ended.{face_of}
use Rattle.amr_lots.specs.declared.lot.Lot.{Lot}
use Rattle.amr_lots.specs.Duties.{MaySend}
use Rattle.amr_lots.specs.LotSteps.{CanRead, CanStepBorder, HasFinishedLot, KeepsButSizes}
use Rattle.amr_lots.proofs.Reading.{all_stands, can_border, can_read, not_finished, still_may_send}
use Rattle.amr_lots.proofs.finished.complete.Goals as goal

pub returns-then-is_finished-clause-finished : goal.returns-then-is_finished-clause-finished
returns-then-is_finished-clause-finished c = c.is_finished.ensures.finished c.if-is_finished.true

pub returns-then-is_finished-clause-stands : goal.returns-then-is_finished-clause-stands
returns-then-is_finished-clause-stands c = λ raw h. h

pub read_sizes-requires : goal.read_sizes-requires
read_sizes-requires c =
    let may = not_finished c.args.p.now c.args.ended.now c.args.work.now (c.is_finished.ensures.unfinished c.if-is_finished.false) c.requires in
    subst (CanRead (face_of c.args.ended.now) c.args.ended.now.places) (sym c.deref_mut.ensures.value) (can_read c.args.p.now (face_of c.args.ended.now) c.args.ended.now.places c.args.work.now may)

pub finish_lot-requires-clause-borders : goal.finish_lot-requires-clause-borders
finish_lot-requires-clause-borders c =
    let may = not_finished c.args.p.now c.args.ended.now c.args.work.now (c.is_finished.ensures.unfinished c.if-is_finished.false) c.requires in
    let x = c.read_sizes.new.lot in
    let kept = subst (λ (y : Lot). KeepsButSizes y x) c.deref_mut.ensures.value c.read_sizes.ensures.others in
    subst (CanStepBorder c.args.p.now c.args.work.now.level) (sym c.deref_mut-2.ensures.value)
    (can_border c.args.p.now (face_of c.args.ended.now) c.args.ended.now.places c.args.work.now may x kept c.read_sizes.ensures.all)

pub finish_lot-requires-clause-sends : goal.finish_lot-requires-clause-sends
finish_lot-requires-clause-sends c =
    let may = not_finished c.args.p.now c.args.ended.now c.args.work.now (c.is_finished.ensures.unfinished c.if-is_finished.false) c.requires in
    let x = c.read_sizes.new.lot in
    let kept = subst (λ (y : Lot). KeepsButSizes y x) c.deref_mut.ensures.value c.read_sizes.ensures.others in
    subst MaySend (sym c.deref_mut-2.ensures.value) (still_may_send c.args.p.now (face_of c.args.ended.now) c.args.ended.now.places c.args.work.now may x kept c.read_sizes.ensures.all)

pub returns-clause-stands : goal.returns-clause-stands
returns-clause-stands c =
    let may = not_finished c.args.p.now c.args.ended.now c.args.work.now (c.is_finished.ensures.unfinished c.if-is_finished.false) c.requires in
    let x = c.read_sizes.new.lot in
    let z = c.finish_lot.new.lot in
    let kept = subst (λ (y : Lot). KeepsButSizes y x) c.deref_mut.ensures.value c.read_sizes.ensures.others in
    let done = subst (λ (y : Lot). HasFinishedLot c.args.p.now c.args.work.now.level y z) c.deref_mut-2.ensures.value c.finish_lot.ensures in
    λ raw stands. all_stands c.args.p.now (face_of c.args.ended.now) c.args.ended.now.places c.args.work.now may x kept c.read_sizes.ensures.all z done raw stands
