use Rattle.std.proofs.Common.{◌≡◌, ap, ◌∙◌, sym, subst, length-set, true, arith}
use Rattle.std.proofs.lemmas.List.{get_or-set_same}
use Rattle.amr_board.specs.declared.view.Progress.{Progress}
use Rattle.amr_board.specs.declared.view.View.{View}
use Rattle.amr_board.specs.BoardOf.{view}
use Rattle.amr_board.specs.Views.{IsFresh, current, no_progress, taking}
use Rattle.amr_workers.proofs.phase.work_on.Goals as goal

-- the task was drawn, and no post of it is made before it is taken
pub work-next-requires-clause-fresh : goal.work-next-requires-clause-fresh
work-next-requires-clause-fresh g c =
    let v = view c.args.seat.now in
    let taken : Progress = record (current v) { taken = true } in
    let now : current (taking v) ≡ taken = get_or-set_same v.tasks 0 taken no_progress c.requires.holding.held in
    subst (λ (w : View g.row.P.Denot). IsFresh w) (sym c.take-piece.ensures.view)
    (record {
      held = (let long = length-set v.tasks 0 taken in let held = c.requires.holding.held in omega arith);
      ungiven = ap (λ (e : Progress). e.given) now ∙ c.requires.holding.ungiven;
      is_taken = ap (λ (e : Progress). e.taken) now;
      no_puts = ap (λ (e : Progress). e.puts) now ∙ c.requires.unposted.0;
      no_adds = ap (λ (e : Progress). e.adds) now ∙ c.requires.unposted.1;
    })
