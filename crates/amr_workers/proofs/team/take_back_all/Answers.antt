use Rattle.std.proofs.Common.{arith}
use Rattle.amr_workers.specs.Asked.{Keeps}
use Rattle.amr_workers.specs.Orders.{Serves}
use Rattle.amr_workers.proofs.Lists.{none_changed, one_changed, all_changed}
use Rattle.amr_workers.proofs.team.take_back_all.Goals as goal

pub loop-k-init : goal.loop-k-init
loop-k-init g c = none_changed (Keeps Serves) c.args.asked.now

pub loop-k-preserved : goal.loop-k-preserved
loop-k-preserved g c = one_changed (Keeps Serves) c.args.asked.now c.loop-k.asked c.loop-k.k c.index-asked-k.result c.take_back.new.self c.loop-k.invariant (omega arith) c.take_back.ensures

pub returns : goal.returns
returns g c = all_changed (Keeps Serves) c.args.asked.now c.loop-k.asked c.loop-k.k c.loop-k.invariant (omega arith)
