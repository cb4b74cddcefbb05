use Rattle.std.proofs.Common.{◌≡◌, ◌∙◌, get_or, ap, arith}
use Rattle.std.specs.Global.{Box}
use Rattle.std.specs.Option.{option_copied}
use Rattle.amr_ghost.specs.Frames.{old_masses}
use Rattle.amr_lots.specs.declared.lot.Lot.{Lot}
use Rattle.amr_advance.proofs.InLots.{IsInStep, in_step}
use Rattle.amr_advance.proofs.WholeStep.{have_made, may_step, some}
use Rattle.amr_advance.proofs.level.step_whole.Given as given
use Rattle.amr_advance.proofs.level.step_whole.Goals.{After-deref_mut, Start}
use Rattle.amr_advance.proofs.level.step_whole.Goals as goal
use Rattle.amr_advance.specs.Steps.{around_of}

its_step : (g : given.Over) (c : Start g) → IsInStep (around_of c.args.given c.args.patches.now) (old_masses (option_copied c.args.given.old)) c.args.lots.now
its_step g c = in_step (around_of c.args.given c.args.patches.now) (old_masses (option_copied c.args.given.old)) c.args.lots.now c.requires.level c.requires.lots.lots

-- the lot that was lent is the first one
same_lot : (g : given.Over) (c : After-deref_mut g) → c.deref_mut.result.now ≡ (get_or c.args.lots.now.lots.items 0 c.index_mut.result.now).value
same_lot g c = c.deref_mut.ensures.value ∙ ap (λ (x : Box Lot). x.value) c.index_mut.ensures.value

pub index_mut-requires : goal.index_mut-requires
index_mut-requires g c = omega (arith, some (its_step g (goal.at.index_mut-requires g c).Start) c.requires.one, c.args.lots.now.lots.ok.0)

pub step_by_one-requires-clause-step : goal.step_by_one-requires-clause-step
step_by_one-requires-clause-step g c =
    let at = goal.at.step_by_one-requires-clause-step g c in
    may_step (its_step g at.Start) c.requires.one c.index_mut.result.now c.requires.lots.values c.deref_mut.result.now (same_lot g at.After-deref_mut) c.requires.edges

pub returns : goal.returns
returns g c =
    let at = goal.at.returns g c in
    have_made (its_step g at.Start) c.requires.one c.index_mut.result.now c.requires.lots.values c.deref_mut.result.now (same_lot g at.After-deref_mut) c.step_by_one.ensures c.requires.edges
