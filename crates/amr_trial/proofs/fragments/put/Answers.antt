use Rattle.std.proofs.Common.{arith}
use Rattle.amr_trial.proofs.TextParts.{one_more_fragment}
use Rattle.amr_trial.proofs.fragments.put.Goals as goal

pub loop-fragment-preserved : goal.loop-fragment-preserved
loop-fragment-preserved c =
    let l = c.loop-fragment in
    one_more_fragment c.args.out.now.items l.out.items c.put_fragment.new.out.items c.args.fragments.now l.fragment-index _ (omega arith) l.invariant c.in_ok-put_fragment.ensures
