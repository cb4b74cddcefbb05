use Rattle.std.proofs.Common.{ap, arith, get_or, refl}
use Rattle.amr_cycle.specs.declared.kept.KeptLevel.{KeptLevel}
use Rattle.amr_cycle.proofs.KeptLaws.{one_more_forgot}
use Rattle.amr_cycle.proofs.kept.forget_all.Goals as goal

pub loop-k-init : goal.loop-k-init
loop-k-init c = record { done = λ p levels now kept n d below lt. absurd (omega (arith, below)); others = λ n d le. refl; count = refl }

pub loop-k-preserved : goal.loop-k-preserved
loop-k-preserved c =
    let ks = c.loop-k.kept in
    let k = c.loop-k.k in
    one_more_forgot _ ks k (get_or ks k c.index-kept-k.result) c.forget.new.kept (omega arith) (ap (λ (x : KeptLevel). get_or ks k x) c.index-kept-k.is) c.forget.ensures c.loop-k.invariant

pub returns : goal.returns
returns c = λ p before now kept n d lt. c.loop-k.invariant.done p before now kept n d (omega (arith, lt)) lt
