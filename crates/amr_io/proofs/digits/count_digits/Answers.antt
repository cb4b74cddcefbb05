use Rattle.std.proofs.Common.{rules, arith}
use Rattle.std.proofs.lemmas.Fmt.{length-decimal-le}
use Rattle.itoa.proofs.Decimal.{length_four}
use Rattle.amr_io.proofs.digits.count_digits.Goals as goal

pub loop-left-preserved : goal.loop-left-preserved
loop-left-preserved c = omega (arith, c.loop-left.invariant, length_four c.loop-left.left c.loop-left-test.true c.loop-left.auto.left-fits.fits)

pub overflow_add-after : goal.overflow_add-after
overflow_add-after c = search (rules, length_four c.loop-left.left c.loop-left-test.true c.loop-left.auto.left-fits.fits, length-decimal-le 20 c.args.n (omega arith) (omega arith) c.ranges.n.fits)

pub overflow_add-result : goal.overflow_add-result
overflow_add-result c = search (rules, length-decimal-le 20 c.args.n (omega arith) (omega arith) c.ranges.n.fits)
