use Rattle.std.proofs.Common.{◌<◌, ◌^◌, arith}
use Rattle.amr_tags.proofs.Counts.{at_most_64, none_before, one_word}
use Rattle.amr_tags.proofs.scan.count_row.Goals as goal

pub loop-w-init : goal.loop-w-init
loop-w-init c = (none_before c.args.per_row c.args.words.now c.args.j c.args.from c.args.to _ (omega arith), omega arith)

pub loop-w-preserved : goal.loop-w-preserved
loop-w-preserved c =
    let fits : c.kept-word.result < 2 ^ 64 = omega arith in (
      one_word c.args.per_row c.args.words.now c.args.j c.loop-w.w c.args.from c.args.to c.kept-word.result c.loop-w.count c.from-count.result fits c.kept-word.ensures c.loop-w.invariant.0 c.from-count.ensures,
      omega (arith, at_most_64 c.kept-word.result fits, c.from-count.ensures),
    )
