use Rattle.std.proofs.Common.{sym, subst, arith}
use Rattle.std.specs.Global.{Box}
use Rattle.std.specs.List.{All}
use Rattle.amr_def.specs.Domain.{domain}
use Rattle.amr_ghost.specs.Outer.{HasOuterPlaces, IsOuterSpan}
use Rattle.amr_lots.specs.declared.lot.Lot.{Lot}
use Rattle.amr_lots.proofs.InPlaces.{all_changed, none_changed, one_more_changed}
use Rattle.amr_advance.proofs.outer.find_values.Goals as goal

pub loop-k-init : goal.loop-k-init
loop-k-init c = none_changed _ c.args.lots.now

pub find_lot_values-requires-clause-spans : goal.find_lot_values-requires-clause-spans
find_lot_values-requires-clause-spans c =
    let x = c.index-lots-k.result in
    subst (λ (y : Box Lot). All (IsOuterSpan (domain c.args.given.problem.now c.args.given.level)) y.value.workspace.outer.spans.items) (sym (c.loop-k.invariant.rest c.loop-k.k x (omega arith))) (c.requires.spans c.loop-k.k x c.loop-k-test.true)

pub find_lot_values-requires-clause-places : goal.find_lot_values-requires-clause-places
find_lot_values-requires-clause-places c =
    let x = c.index-lots-k.result in
    subst (λ (y : Box Lot). HasOuterPlaces y.value.workspace.outer) (sym (c.loop-k.invariant.rest c.loop-k.k x (omega arith))) (c.requires.places c.loop-k.k x c.loop-k-test.true)

pub loop-k-preserved : goal.loop-k-preserved
loop-k-preserved c = one_more_changed _ c.args.lots.now c.loop-k.k c.loop-k.lots c.loop-k.invariant c.index-lots-k.result _ c.loop-k-test.true c.find_lot_values.ensures

pub returns : goal.returns
returns c = all_changed _ c.args.lots.now c.loop-k.k c.loop-k.lots c.loop-k.invariant _ (λ k x y h. h) (omega (arith, c.loop-k-test.false))
