use Rattle.std.proofs.Common.{arith}
use Rattle.amr_tags.proofs.Shifts.{down-last, down-others}
use Rattle.amr_tags.proofs.grow.down.Goals as goal

pub returns-clause-last : goal.returns-clause-last
returns-clause-last c = down-last c.args.word c.with_bit.result c.args.last (omega arith) (c.with_bit.ensures 63 (omega arith))

pub returns-clause-others : goal.returns-clause-others
returns-clause-others c = λ i below. down-others c.args.word c.with_bit.result c.args.last i below (c.with_bit.ensures i (omega arith))
