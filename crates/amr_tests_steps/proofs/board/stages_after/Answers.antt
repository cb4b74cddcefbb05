use Rattle.std.proofs.Common.{refl, sym, ap, subst, arith}
use Rattle.amr_board.specs.declared.view.View.{View}
use Rattle.amr_board.specs.Views.{HoldsNone}
use Rattle.amr_board.proofs.Sums.{found_at, got, in_range_at}
use Rattle.amr_phase.specs.declared.plan.Task.{Task}
use Rattle.amr_phase.specs.Plans.{PlanOf}
use Rattle.std.proofs.Common.{◌∙◌, length}
use Rattle.std.proofs.lemmas.List.{length-map}
use Rattle.amr_lots.specs.declared.lot.Work.{Work}
use Rattle.amr_lots.specs.Ready.{MayBegin}
use Rattle.amr_lots.specs.Works.{adds_of_work, puts_of_work}
use Rattle.amr_advance.specs.Phases.{planned}
use Rattle.amr_advance.proofs.WorkSends.{works_sendable}
use Rattle.amr_tests_steps.proofs.board.stages_after.Goals as goal

pub run_phase-last-requires-clause-seat : goal.run_phase-last-requires-clause-seat
run_phase-last-requires-clause-seat g c κs within = c.in_ok-board.ensures.3.seat_of

pub run_phase-last-requires-clause-none : goal.run_phase-last-requires-clause-none
run_phase-last-requires-clause-none g c κs within = subst (λ (v : View Work). HoldsNone v) (sym c.in_ok-board.ensures.3.first) refl

pub run_phase-last-requires-clause-here : goal.run_phase-last-requires-clause-here
run_phase-last-requires-clause-here g c κs within = ap (λ (v : View Work). v.past) c.in_ok-board.ensures.3.first

pub run_phase-last-requires-clause-alone : goal.run_phase-last-requires-clause-alone
run_phase-last-requires-clause-alone g c κs within = ap (λ (v : View Work). v.share) c.in_ok-board.ensures.3.first

pub run_phase-last-requires-clause-ready : goal.run_phase-last-requires-clause-ready
run_phase-last-requires-clause-ready g c κs within = λ t w at.
    let ws = c.in_ok-board.board.pieces in
    let begun = c.in_ok-board.ensures.3 in
    subst (λ (q : PlanOf). MayBegin c.args.p.now q w) (sym begun.plan)
    (subst (λ (v : Work). MayBegin c.args.p.now (planned c.in_ok-board.ensures.1 ws) v) (got ws t w w at) (begun.may.begin t w (in_range_at ws t w at)))

pub run_phase-last-requires-send-P : goal.run_phase-last-requires-send-P
run_phase-last-requires-send-P g c κs within = search works_sendable depth 12 fits 2000

task_of : Work → Task
task_of w = record { puts = puts_of_work w; adds = adds_of_work w }

pub stages-requires : goal.stages-requires
unfolding task_of
stages-requires g c = λ t lt.
    let ws = c.in_ok-board.board.pieces in
    let begun = c.in_ok-board.ensures.3 in
    let many = ap (λ (q : PlanOf). length q.tasks) begun.plan ∙ length-map ws task_of in
    let found = found_at ws t (omega (arith, lt, c.tasks-count.ensures, many)) in
    let given = c.close.ensures.pieces t found.0 found.1 in
    (given.0, given.2)
