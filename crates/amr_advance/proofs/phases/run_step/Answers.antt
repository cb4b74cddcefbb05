use Rattle.std.proofs.Common.{◌≡◌, ◌∙◌, List, length, refl, sym, ap, subst, arith}
use Rattle.std.specs.Prelude.{slice_index}
use Rattle.std.specs.Global.{Box}
use Rattle.std.specs.Vec.{with_items}
use Rattle.std.proofs.lemmas.List.{with_items_is}
use Rattle.amr_lots.specs.declared.lot.Duty.{Duty}
use Rattle.amr_lots.specs.declared.lot.Duty.TheVariants.{Step}
use Rattle.amr_lots.specs.declared.lot.Lot.{Lot}
use Rattle.amr_advance.specs.Phases.{HaveRun, IsOpened}
use Rattle.amr_advance.proofs.ServedPieces.{as_many_lots, step_made}
use Rattle.amr_advance.proofs.phases.run_step.Given as given
use Rattle.amr_advance.proofs.phases.run_step.Goals.{After-run_lots-ended}
use Rattle.amr_advance.proofs.phases.run_step.Goals as goal

-- what was run on the board, whatever lots it was opened for
ran : (g : given.Over) (c : After-run_lots-ended g) (xs : List (Box Lot)) → IsOpened c.args.phase.basis.now c.args.phase.level Step c.args.phase.problem.now c.args.lots.now.shape xs c.args.board c.args.seat
    → HaveRun c.args.phase.basis.now c.args.phase.level Step c.args.phase.problem.now c.args.lots.now.shape xs c.run_lots-ended.new.lots.items c.run_lots-ended.result
ran g c xs begun =
    let b = c.args.phase.basis.now in
    let p = c.args.phase.problem.now in
    let shape = c.args.lots.now.shape in
    subst (λ (d : Duty). HaveRun b c.args.phase.level d p shape xs c.run_lots-ended.new.lots.items c.run_lots-ended.result) c.requires.duty
    (c.run_lots-ended.ensures.run shape xs (subst (λ (d : Duty). IsOpened b c.args.phase.level d p shape xs c.args.board c.args.seat) (sym c.requires.duty) begun))

pub run_lots-ended-requires-clause-opened : goal.run_lots-ended-requires-clause-opened
run_lots-ended-requires-clause-opened g c κs within =
    let begun = c.requires.opened in
    let shape = c.args.lots.now.shape in
    (shape, begun.0, subst (λ (d : Duty). IsOpened c.args.phase.basis.now c.args.phase.level d c.args.phase.problem.now shape begun.0 c.args.board c.args.seat) (sym c.requires.duty) begun.1)

pub take_totals-requires-clause-count : goal.take_totals-requires-clause-count
take_totals-requires-clause-count g c =
    let begun = c.requires.opened in
    let run = ran g (goal.at.take_totals-requires-clause-count g c).After-run_lots-ended begun.0 begun.1 in
    ap length c.deref_mut.ensures.value ∙ c.requires.words ∙ sym (run.registers ∙ run.run.words.registers)

pub returns-clause-stepped : goal.returns-clause-stepped
returns-clause-stepped g c = λ xs begun.
    let t = c.args.lots.now in
    let run = ran g (goal.at.returns-clause-stepped g c).After-run_lots-ended xs begun in
    let ys = c.run_lots-ended.new.lots in
    let totals = with_items t.totals c.take_totals.new.totals in
    let count : length c.take_totals.new.totals ≡ length t.totals.items = c.take_totals.ensures.count ∙ ap length c.deref_mut.ensures.value in
    let items : totals.items ≡ c.take_totals.new.totals = with_items_is t.totals c.take_totals.new.totals (omega (arith, count, t.totals.ok.0)) in (
      step_made run.run (length xs) ys.items refl run.collected t (record t { lots = ys; totals = totals }) refl refl (ap length items ∙ count)
          (λ word lt. (λ i. slice_index (items i) word) ∙ c.take_totals.ensures.all word (omega (arith, lt, ap length items)) ∙ run.totals word) c.requires.words,
      as_many_lots run.run (length xs) ys.items refl run.collected,
    )
