use Rattle.std.proofs.Common.{◌≡◌, ◌∙◌, ℕ, ◌<◌, List, length, refl, sym, ap, subst, arith}
use Rattle.std.specs.Global.{Box}
use Rattle.amr_board.specs.declared.board.Shape.{Shape}
use Rattle.amr_board.specs.declared.view.View.{View}
use Rattle.amr_board.specs.Ended.{face_of, total_of}
use Rattle.amr_board.specs.Views.{HoldsNone}
use Rattle.amr_board.proofs.Sums.{found_at, got, in_range_at}
use Rattle.amr_phase.specs.Plans.{PlanOf, planned_face, planned_total}
use Rattle.amr_lots.specs.declared.lot.Lot.{Lot}
use Rattle.amr_lots.specs.declared.lot.Work.{Work}
use Rattle.amr_lots.specs.Ready.{MayBegin}
use Rattle.amr_lots.specs.Works.{StandsFor}
use Rattle.amr_advance.specs.Phases.{AreCollected, HasRun, IsOpened, planned}
use Rattle.amr_advance.proofs.LotCounts.{fewer_tasks}
use Rattle.amr_advance.proofs.Pieces.{tasks, may_collect}
use Rattle.amr_advance.proofs.phases.run_lots.Given as given
use Rattle.amr_advance.proofs.phases.run_lots.Goals.{After-run_board-ended}
use Rattle.amr_advance.proofs.phases.run_lots.Goals as goal

-- what the closed board has, whatever lots it was opened for
ran : (g : given.Over) (c : After-run_board-ended g) (shape : Shape) (xs : List (Box Lot)) → IsOpened c.args.phase.basis.now c.args.phase.level c.args.phase.duty c.args.phase.problem.now shape xs c.args.board c.args.seat
    → HasRun c.args.phase.basis.now c.args.phase.level c.args.phase.duty c.args.phase.problem.now shape xs c.run_board-ended.result
ran g c shape xs begun =
    let end = c.run_board-ended.ensures in
    let ended = c.run_board-ended.result in
    let ws = c.args.board.pieces in
    record {
      raw = ws;
      are = begun.are;
      may = begun.may;
      words = record {
        places = end.shape.0 ∙ ap (λ (q : PlanOf). q.places) begun.plan;
        registers = end.shape.1 ∙ ap (λ (q : PlanOf). q.words) begun.plan;
        totals = subst (λ (q : PlanOf). (w : ℕ) → w < q.words → total_of ended w ≡ planned_total q w) begun.plan end.totals;
        faces = subst (λ (q : PlanOf). (p : ℕ) → p < q.places → face_of ended p ≡ planned_face q p) begun.plan end.faces;
      };
      pieces = λ t w from lt.
          let found = found_at ws t lt in
          let given = end.pieces t found.0 found.1 in
          record { piece = given.0; given = given.2; stands = subst (λ (v : Work). StandsFor v given.0) (sym (got ws t found.0 w found.1)) given.1 };
    }

pub run_board-ended-requires-clause-seat : goal.run_board-ended-requires-clause-seat
run_board-ended-requires-clause-seat g c κs within = c.requires.opened.2.seat_of

pub run_board-ended-requires-clause-none : goal.run_board-ended-requires-clause-none
run_board-ended-requires-clause-none g c κs within = subst (λ (v : View Work). HoldsNone v) (sym c.requires.opened.2.first) refl

pub run_board-ended-requires-clause-here : goal.run_board-ended-requires-clause-here
run_board-ended-requires-clause-here g c κs within = ap (λ (v : View Work). v.past) c.requires.opened.2.first

pub run_board-ended-requires-clause-alone : goal.run_board-ended-requires-clause-alone
run_board-ended-requires-clause-alone g c κs within = ap (λ (v : View Work). v.share) c.requires.opened.2.first

pub run_board-ended-requires-clause-ready : goal.run_board-ended-requires-clause-ready
run_board-ended-requires-clause-ready g c κs within = λ t w at.
    let ws = c.args.board.pieces in
    let begun = c.requires.opened.2 in
    subst (λ (q : PlanOf). MayBegin c.args.phase.problem.now q w) (sym begun.plan)
    (subst (λ (v : Work). MayBegin c.args.phase.problem.now (planned c.requires.opened.0 ws) v) (got ws t w w at) (begun.may.begin t w (in_range_at ws t w at)))

pub run_board-ended-requires-clause-crew : goal.run_board-ended-requires-clause-crew
run_board-ended-requires-clause-crew g c κs within =
    let n = tasks c.requires.opened.0 c.args.board.pieces c.args.board.plan c.requires.opened.2.plan in
    fewer_tasks _ c.args.phase.problem.now _ (length c.args.board.pieces) c.args.workers.now (omega (arith, n)) c.requires.crew

pub collect-requires-clause-pieces : goal.collect-requires-clause-pieces
collect-requires-clause-pieces g c = λ t lt.
    let begun = c.requires.opened in
    let n = tasks begun.0 c.args.board.pieces c.args.board.plan begun.2.plan in
    let m = begun.2.are.count in
    may_collect (ran g (goal.at.collect-requires-clause-pieces g c).After-run_board-ended begun.0 begun.1 begun.2) t (omega (arith, lt, c.tasks-count.ensures, n, m))

pub collect-requires-clause-room : goal.collect-requires-clause-room
collect-requires-clause-room g c =
    let begun = c.requires.opened in
    let n = tasks begun.0 c.args.board.pieces c.args.board.plan begun.2.plan in
    omega (arith, c.tasks-count.ensures, n, c.requires.room)

pub returns-clause-run : goal.returns-clause-run
returns-clause-run g c = λ shape xs begun.
    let n = tasks shape c.args.board.pieces c.args.board.plan begun.plan in
    let m = begun.are.count in
    record {
      closed = c.run_board-ended.result;
      run = ran g (goal.at.returns-clause-run g c).After-run_board-ended shape xs begun;
      collected = subst (λ k. AreCollected c.run_board-ended.result k c.collect.new.lots.items) (c.tasks-count.ensures ∙ n ∙ m) c.collect.ensures.lots;
      registers = c.collect.ensures.registers;
      totals = c.collect.ensures.totals;
    }
