use Rattle.std.proofs.Common.{arith}
use Rattle.std.specs.declared.option.Option.TheVariants.{None}
use Rattle.amr_lots.specs.Corrections.{with_correction}
use Rattle.amr_lots.proofs.InPlaces.{all_changed, none_changed, one_more_changed}
use Rattle.amr_advance.proofs.correction.take_back.Goals as goal

pub loop-k-init : goal.loop-k-init
loop-k-init c = none_changed _ c.args.lots.now

pub loop-k-preserved : goal.loop-k-preserved
loop-k-preserved c = one_more_changed _ c.args.lots.now c.loop-k.k c.loop-k.lots c.loop-k.invariant c.index-lots-k.result _ c.loop-k-test.true (λ i. with_correction None (c.deref_mut.ensures.value i))

pub returns : goal.returns
returns c = all_changed _ c.args.lots.now c.loop-k.k c.loop-k.lots c.loop-k.invariant _ (λ k x y h. h) (omega (arith, c.loop-k-test.false))
