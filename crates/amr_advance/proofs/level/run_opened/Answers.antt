use Rattle.std.proofs.Common.{◌≡◌, ◌∙◌, ℕ, ◌<◌, length, sym, subst, arith}
use Rattle.std.specs.Prelude.{slice_index}
use Rattle.std.specs.Option.{option_copied}
use Rattle.amr_def.specs.declared.problem.Problem.{Problem}
use Rattle.amr_ghost.specs.Frames.{old_masses}
use Rattle.amr_board.specs.declared.board.Shape.{Shape}
use Rattle.amr_phase.specs.Plans.{planned_total}
use Rattle.amr_lots.specs.declared.lot.StepBasis.{StepBasis}
use Rattle.amr_lots.specs.declared.lot.Duty.TheVariants.{Step}
use Rattle.amr_advance.specs.Crews.{MayRun}
use Rattle.amr_advance.specs.Phases.{HaveMadeStep, IsOpened, planned}
use Rattle.amr_advance.proofs.InLots.{IsInStep, in_step}
use Rattle.amr_advance.proofs.SteppedLots.{several, xs_count}
use Rattle.amr_advance.proofs.level.run_opened.Given as given
use Rattle.amr_advance.proofs.level.run_opened.Goals.{After-phase_of}
use Rattle.amr_advance.proofs.level.run_opened.Goals as goal
use Rattle.amr_advance.specs.Steps.{around_of}
use Rattle.std.specs.Global.{Vec}
use Rattle.std.proofs.Common.{List}
use Rattle.amr_patch.specs.declared.patches.Patch.{Patch}
use Rattle.amr_register.specs.declared.edges.EdgeCell.{EdgeCell}
use Rattle.amr_advance.specs.declared.level.StepInput.{StepInput}
use Rattle.amr_advance.specs.declared.lots.Lots.{Lots}
use Rattle.amr_advance.specs.InLots.{IsStepOpened, MayStepInLots}

level_of_step : (g : StepInput) (ps : List Patch) (es : List (Vec EdgeCell)) (t : Lots) → MayStepInLots g ps es t → IsInStep (around_of g ps) (old_masses (option_copied g.old)) t
level_of_step g ps es t may = in_step (around_of g ps) (old_masses (option_copied g.old)) t may.step.level may.lots.lots

module _ (g : given.Over) (c : After-phase_of g) (ps : List Patch) (es : List (Vec EdgeCell)) (t : Lots) (qs : List Patch) (ds : List (Vec EdgeCell)) (h : IsStepOpened c.args.given ps es t qs ds c.args.lots.now c.args.board c.args.seat) where
  -- the board is that of the phase
  opened : IsOpened c.phase_of.result.basis.now c.phase_of.result.level Step c.phase_of.result.problem.now c.args.lots.now.shape h.handed c.args.board c.args.seat
  opened =
      let q = c.phase_of.result in
      subst (λ (s : Shape). IsOpened q.basis.now q.level Step q.problem.now s h.handed c.args.board c.args.seat) (λ i. (sym h.rest i).shape)
      (subst (λ (p : Problem). IsOpened q.basis.now q.level Step p t.shape h.handed c.args.board c.args.seat) (sym c.phase_of.ensures.problem)
      (subst (λ (b : StepBasis). IsOpened b q.level Step c.args.given.problem.now t.shape h.handed c.args.board c.args.seat) (sym c.phase_of.ensures.basis)
      (subst (λ n. IsOpened c.args.given.basis.now n Step c.args.given.problem.now t.shape h.handed c.args.board c.args.seat) (sym c.phase_of.ensures.level) h.opened)))

  -- as many pieces as lots
  count : length c.args.board.pieces ≡ length t.lots.items
  count = h.opened.are.count ∙ xs_count (level_of_step c.args.given ps es t h.may) h.may.several h.may.lots.values h.given h.may.edges h.may.lots.packed

pub run_step-requires-clause-duty : goal.run_step-requires-clause-duty
run_step-requires-clause-duty g c κs within = c.phase_of.ensures.duty

pub run_step-requires-clause-opened : goal.run_step-requires-clause-opened
run_step-requires-clause-opened g c κs within =
    let r = c.requires.opened in
    (r.5.handed, opened g (goal.at.run_step-requires-clause-opened g c).After-phase_of r.0 r.1 r.2 r.3 r.4 r.5)

pub run_step-requires-clause-few : goal.run_step-requires-clause-few
run_step-requires-clause-few g c κs within =
    let r = c.requires.opened in
    let n = count g (goal.at.run_step-requires-clause-few g c).After-phase_of r.0 r.1 r.2 r.3 r.4 r.5 in
    let m = r.5.may.lots.lots.many in
    omega (arith, n, m)

pub run_step-requires-clause-words : goal.run_step-requires-clause-words
run_step-requires-clause-words g c κs within =
    let r = c.requires.opened in
    let h = r.5 in
    (λ i. length (h.rest i).totals.items) ∙ (several (level_of_step c.args.given r.0 r.1 r.2 h.may) h.may.several h.may.lots.values).totals ∙ (λ i. (sym h.rest i).shape.words)

pub run_step-requires-clause-room : goal.run_step-requires-clause-room
run_step-requires-clause-room g c κs within =
    let r = c.requires.opened in
    let n = count g (goal.at.run_step-requires-clause-room g c).After-phase_of r.0 r.1 r.2 r.3 r.4 r.5 in
    omega (arith, n, r.5.room)

pub run_step-requires-clause-empty : goal.run_step-requires-clause-empty
run_step-requires-clause-empty g c κs within = c.requires.opened.5.empty

pub run_step-requires-clause-crew : goal.run_step-requires-clause-crew
run_step-requires-clause-crew g c κs within = subst (λ (p : Problem). MayRun g.G.Gate.admits p (length c.args.board.pieces) c.args.workers.now) (sym c.phase_of.ensures.problem) c.requires.crew

pub returns-clause-run : goal.returns-clause-run
returns-clause-run g c = λ ps es t qs ds h.
    let u = c.run_step.new.lots in
    let old = c.args.lots.now in
    let done = c.run_step.ensures.stepped h.handed (opened g (goal.at.returns-clause-run g c).After-phase_of ps es t qs ds h) in
    let made : HaveMadeStep c.args.given.basis.now c.args.given.level h.handed old u =
    subst (λ (b : StepBasis). HaveMadeStep b c.args.given.level h.handed old u) c.phase_of.ensures.basis (subst (λ n. HaveMadeStep c.phase_of.result.basis.now n h.handed old u) c.phase_of.ensures.level done.0) in
    record {
      may = h.may;
      handed = h.handed;
      given = h.given;
      as_many = done.1;
      made = λ e. record {
        raw = made.raw;
        are = made.are;
        count = made.count;
        lots = made.lots;
        words = made.words ∙ (λ i. length (h.rest i).totals.items);
        totals = subst (λ (s : Shape). (word : ℕ) → word < s.words → slice_index u.totals.items word ≡ planned_total (planned s made.raw) word) (λ i. (h.rest i).shape) made.totals;
      };
      unmade = λ e. absurd (cc);
      rest = c.run_step.ensures.rest ∙ (λ i. record (h.rest i) { lots = u.lots; totals = u.totals });
    }
