use Rattle.std.proofs.Common.{arith}
use Rattle.amr_advance.proofs.LentParts.{lent_kept, none_lent, one_more_lent}
use Rattle.amr_advance.proofs.correction.lend.Goals as goal

pub loop-k-init : goal.loop-k-init
loop-k-init c = none_lent c.args.each c.args.whole.now c.args.lots.now

pub loop-k-preserved : goal.loop-k-preserved
loop-k-preserved c =
    one_more_lent c.args.each c.args.whole.now c.args.lots.now c.loop-k.k c.loop-k.lots c.loop-k.invariant c.index-lots-k.result _ c.in_ok-part.part c.loop-k-test.true c.in_ok-part.ensures c.lend_to.ensures

pub returns-in_err-part-clause-kept : goal.returns-in_err-part-clause-kept
returns-in_err-part-clause-kept c = lent_kept c.args.each c.args.whole.now c.args.lots.now c.loop-k.k c.loop-k.lots c.loop-k.invariant

pub returns-clause-lent : goal.returns-clause-lent
returns-clause-lent c = λ k x lt. c.loop-k.invariant.done k x (omega (arith, lt, c.loop-k-test.false))

pub returns-clause-kept : goal.returns-clause-kept
returns-clause-kept c = lent_kept c.args.each c.args.whole.now c.args.lots.now c.loop-k.k c.loop-k.lots c.loop-k.invariant
