use Rattle.std.proofs.Common.{◌∙◌, length, refl, sym, subst, arith}
use Rattle.std.specs.Option.{option_copied}
use Rattle.amr_ghost.specs.Frames.{old_masses}
use Rattle.amr_advance.specs.Crews.{MayRun}
use Rattle.amr_advance.proofs.InLots.{in_step}
use Rattle.amr_advance.proofs.LotCounts.{few_runs, fewer_tasks}
use Rattle.amr_advance.proofs.ServedPieces.{as_many_itself}
use Rattle.amr_advance.proofs.SteppedLots.{several, xs_count}
use Rattle.amr_advance.proofs.level.run_in_lots.Given as given
use Rattle.amr_advance.proofs.level.run_in_lots.Goals.{In-Ok}
use Rattle.amr_advance.proofs.level.run_in_lots.Goals as goal
use Rattle.amr_advance.specs.Steps.{around_of}
use Rattle.amr_advance.specs.InLots.{IsStepOpened}

-- the step is opened
opened : (g : given.Over) (c : In-Ok g) → IsStepOpened c.args.given c.args.patches.now c.args.edges.now c.args.lots.now c.open_step.new.patches c.open_step.new.edges c.open_step.new.lots c.in-Ok.board c.in-Ok.seat
opened g c = record {
  may = record { step = c.requires.step; lots = c.requires.lots; several = c.requires.several; edges = c.requires.edges };
  handed = c.in-Ok.ensures.opened.0;
  given = c.in-Ok.ensures.opened.1;
  opened = c.in-Ok.ensures.opened.2;
  room = c.in-Ok.ensures.room;
  empty = c.in-Ok.ensures.empty;
  rest = c.open_step.ensures.rest;
}

pub run_opened-requires-clause-opened : goal.run_opened-requires-clause-opened
run_opened-requires-clause-opened g c κs within = (c.args.patches.now, c.args.edges.now, c.args.lots.now, c.open_step.new.patches, c.open_step.new.edges, opened g (goal.at.run_opened-requires-clause-opened g c).In-Ok)

pub run_opened-requires-clause-crew : goal.run_opened-requires-clause-crew
run_opened-requires-clause-crew g c κs within =
    let t = c.args.lots.now in
    let level = in_step (around_of c.args.given c.args.patches.now) (old_masses (option_copied c.args.given.old)) t c.requires.step.level c.requires.lots.lots in
    let few = few_runs t.each (length t.lots.items) (length c.args.patches.now) c.requires.lots.lots.some (several level c.requires.several c.requires.lots.values).tight in
    let n = c.in-Ok.ensures.opened.2.are.count ∙ xs_count level c.requires.several c.requires.lots.values c.in-Ok.ensures.opened.1 c.requires.edges c.requires.lots.packed in
    let m = length c.in-Ok.board.pieces in
    subst (MayRun g.G.Gate.admits c.args.given.problem.now m) (sym c.open_step.ensures.workers) (fewer_tasks g.G.Gate.admits c.args.given.problem.now m (length c.args.patches.now) c.args.workers.now (omega (arith, n, few)) c.requires.crew)

pub returns-in-Ok-clause-run : goal.returns-in-Ok-clause-run
returns-in-Ok-clause-run g c =
    let at = goal.at.returns-in-Ok-clause-run g c in
    let made = c.run_opened.ensures.run c.args.patches.now c.args.edges.now c.args.lots.now c.open_step.new.patches c.open_step.new.edges (opened g at.In-Ok) in
    (made.handed, made.given, made.as_many, made.made refl, tt)

pub returns-in-Err-clause-run : goal.returns-in-Err-clause-run
returns-in-Err-clause-run g c = (c.open_step.new.lots.lots.items, c.in-Err.ensures.back, as_many_itself c.open_step.new.lots.lots.items, tt, refl)

pub returns-in-Ok-clause-rest : goal.returns-in-Ok-clause-rest
returns-in-Ok-clause-rest g c =
    (c.run_opened.ensures.run c.args.patches.now c.args.edges.now c.args.lots.now c.open_step.new.patches c.open_step.new.edges (opened g (goal.at.returns-in-Ok-clause-rest g c).In-Ok)).rest
