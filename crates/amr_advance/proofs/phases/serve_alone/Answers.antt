use Rattle.std.proofs.Common.{get_or, sym, subst, arith}
use Rattle.std.specs.Box.{with_value}
use Rattle.std.specs.Global.{Box}
use Rattle.amr_lots.specs.declared.lot.Lot.{Lot}
use Rattle.amr_lots.specs.Duties.{IsServed, MayServe}
use Rattle.amr_lots.proofs.InPlaces.{all_changed, none_changed, one_more_changed}
use Rattle.amr_advance.proofs.phases.serve_alone.Goals as goal

pub loop-k-init : goal.loop-k-init
loop-k-init c = none_changed _ c.args.lots.now

pub serve-requires : goal.serve-requires
serve-requires c =
    let x = c.index-lots-k.result in
    subst (MayServe c.args.duty) (sym c.deref_mut.ensures.value)
    (subst (λ (y : Box Lot). MayServe c.args.duty y.value) (sym (c.loop-k.invariant.rest c.loop-k.k x (omega arith))) (c.requires c.loop-k.k x c.loop-k-test.true))

pub loop-k-preserved : goal.loop-k-preserved
loop-k-preserved c =
    let x = c.index-lots-k.result in
    one_more_changed _ c.args.lots.now c.loop-k.k c.loop-k.lots c.loop-k.invariant x (with_value (get_or c.loop-k.lots c.loop-k.k x) c.serve.new.lot) c.loop-k-test.true
    (subst (λ (y : Lot). IsServed c.args.duty y c.serve.new.lot) c.deref_mut.ensures.value c.serve.ensures)

pub returns : goal.returns
returns c = all_changed _ c.args.lots.now c.loop-k.k c.loop-k.lots c.loop-k.invariant _ (λ k x y h. h) (omega (arith, c.loop-k-test.false))
