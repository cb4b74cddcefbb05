use Rattle.amr_phase.specs.Plans.{planned_face}
use Rattle.amr_board.specs.BoardOf.{IsSeatOf, view}
use Rattle.amr_lots.specs.declared.lot.Work.{Work}
use Rattle.amr_lots.specs.Looks.{HasLookedOnly}
use Rattle.amr_lots.specs.Ready.{MayFinish}
use Rattle.amr_lots.specs.Works.{StandsFor}
use Rattle.amr_lots.proofs.job.finish_in_time.Given as goal

-- the lot is swept still, and stands for what it stood for
abbrev pub invariant-looks : goal.invariant-looks
invariant-looks l = record {
  seat : IsSeatOf l.board l.seat;
  looked : HasLookedOnly (view l.initial.seat) (view l.seat);
  stands : (raw : Work) → StandsFor raw l.initial.work → StandsFor raw l.work;
  ready : MayFinish l.p (planned_face l.board.plan) l.board.plan.places l.work;
}
