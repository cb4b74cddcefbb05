use Rattle.std.proofs.Common.{◌≡◌, sym, subst, ◌∙◌}
use Rattle.amr_phase.specs.Plans.{planned_face}
use Rattle.amr_board.specs.BoardOf.{view}
use Rattle.amr_lots.specs.declared.lot.Lot.{Lot}
use Rattle.amr_lots.specs.declared.lot.LotStage.TheVariants.{Finished, Raw, Swept}
use Rattle.amr_lots.specs.Looks.{HasLookedInVain}
use Rattle.amr_lots.specs.Duties.{MaySend}
use Rattle.amr_lots.specs.LotSteps.{CanRead, CanStepBorder, HasFinishedLot, KeepsButSizes}
use Rattle.amr_lots.specs.Works.{places_read}
use Rattle.amr_lots.proofs.Reading.{all_stands, can_border, can_read, read_may, read_stands, still_may_send}
use Rattle.amr_lots.proofs.border.finish.Goals as goal

pub read_sizes-requires-clause-read : goal.read_sizes-requires-clause-read
read_sizes-requires-clause-read c =
    let plan = c.args.board.now.plan in
    subst (CanRead (planned_face plan) plan.places) (sym c.deref_mut.ensures.value) (can_read c.args.p.now (planned_face plan) plan.places c.args.work c.requires.ready)

pub returns-then-not-read_sizes-clause-stands : goal.returns-then-not-read_sizes-clause-stands
returns-then-not-read_sizes-clause-stands c =
    let plan = c.args.board.now.plan in
    let x = c.read_sizes.new.lot in
    let kept = subst (λ (y : Lot). KeepsButSizes y x) c.deref_mut.ensures.value c.read_sizes.ensures.others in
    λ raw stands. read_stands c.args.p.now (planned_face plan) plan.places c.args.work c.requires.ready x kept raw stands

pub returns-then-not-read_sizes-clause-stage : goal.returns-then-not-read_sizes-clause-stage
returns-then-not-read_sizes-clause-stage c = λ e. let wrong : Swept ≡ Raw = sym c.requires.ready.swept ∙ e in cc

pub returns-then-not-read_sizes-clause-missing : goal.returns-then-not-read_sizes-clause-missing
returns-then-not-read_sizes-clause-missing c = λ e.
    subst (λ (y : Lot). HasLookedInVain (places_read y.workspace.layouts.items) (view c.args.seat.now) (view c.read_sizes.new.seat)) c.deref_mut.ensures.value (c.read_sizes.ensures.missing c.if-not-read_sizes.true)

pub returns-then-not-read_sizes-clause-again : goal.returns-then-not-read_sizes-clause-again
returns-then-not-read_sizes-clause-again c =
    let plan = c.args.board.now.plan in
    let x = c.read_sizes.new.lot in
    let kept = subst (λ (y : Lot). KeepsButSizes y x) c.deref_mut.ensures.value c.read_sizes.ensures.others in
    λ e. read_may c.args.p.now (planned_face plan) plan.places c.args.work c.requires.ready x kept

pub finish_lot-requires-clause-borders : goal.finish_lot-requires-clause-borders
finish_lot-requires-clause-borders c =
    let plan = c.args.board.now.plan in
    let x = c.read_sizes.new.lot in
    let kept = subst (λ (y : Lot). KeepsButSizes y x) c.deref_mut.ensures.value c.read_sizes.ensures.others in
    subst (CanStepBorder c.args.p.now c.args.work.level) (sym c.deref_mut-2.ensures.value)
    (can_border c.args.p.now (planned_face plan) plan.places c.args.work c.requires.ready x kept (c.read_sizes.ensures.all c.if-not-read_sizes.false))

pub finish_lot-requires-clause-sends : goal.finish_lot-requires-clause-sends
finish_lot-requires-clause-sends c =
    let plan = c.args.board.now.plan in
    let x = c.read_sizes.new.lot in
    let kept = subst (λ (y : Lot). KeepsButSizes y x) c.deref_mut.ensures.value c.read_sizes.ensures.others in
    subst MaySend (sym c.deref_mut-2.ensures.value) (still_may_send c.args.p.now (planned_face plan) plan.places c.args.work c.requires.ready x kept (c.read_sizes.ensures.all c.if-not-read_sizes.false))

pub returns-clause-stands : goal.returns-clause-stands
returns-clause-stands c =
    let plan = c.args.board.now.plan in
    let x = c.read_sizes.new.lot in
    let z = c.finish_lot.new.lot in
    let kept = subst (λ (y : Lot). KeepsButSizes y x) c.deref_mut.ensures.value c.read_sizes.ensures.others in
    let done = subst (λ (y : Lot). HasFinishedLot c.args.p.now c.args.work.level y z) c.deref_mut-2.ensures.value c.finish_lot.ensures in
    λ raw stands. all_stands c.args.p.now (planned_face plan) plan.places c.args.work c.requires.ready x kept (c.read_sizes.ensures.all c.if-not-read_sizes.false) z done raw stands

pub returns-clause-stage : goal.returns-clause-stage
returns-clause-stage c = λ e. let wrong : Finished ≡ Raw = e in cc

pub returns-clause-missing : goal.returns-clause-missing
returns-clause-missing c = λ e. absurd (let wrong : Finished ≡ Swept = e in cc)

pub returns-clause-again : goal.returns-clause-again
returns-clause-again c = λ e. absurd (let wrong : Finished ≡ Swept = e in cc)
