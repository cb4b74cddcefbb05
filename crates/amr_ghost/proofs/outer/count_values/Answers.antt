use Rattle.std.proofs.Common.{◌∙◌, ap}
use Rattle.std.specs.Result.{result_ok}
use Rattle.amr_ghost.proofs.Counts.{counted_more, spans_counted}
use Rattle.amr_ghost.proofs.outer.count_values.Goals as goal

pub loop-k-preserved : goal.loop-k-preserved
loop-k-preserved c = counted_more spans_counted c.args.spans.now c.loop-k.k _ _ c.checked_add.result c.loop-k.count c.in_ok-count.count c.loop-k-test.true c.loop-k.invariant c.checked_add.ensures (c.ok_or.ensures.ok_part ∙ ap result_ok c.in_ok-count.was)
