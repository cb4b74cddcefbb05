use Rattle.std.proofs.Common.{arith}
use Rattle.amr_tags.specs.Parts.{row_count}
use Rattle.amr_tags.proofs.Counts.{row_step}
use Rattle.amr_tags.proofs.scan.count_rows.Goals as goal

pub loop-j-preserved : goal.loop-j-preserved
loop-j-preserved c = (row_step (row_count c.args.per_row c.args.words.now c.args.from c.args.to) c.args.first c.loop-j.j c.loop-j.count c.count_row-count.result (omega arith) c.loop-j.invariant.0 c.count_row-count.ensures.count, omega (arith, c.count_row-count.ensures.small))
