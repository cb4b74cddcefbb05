use Rattle.std.proofs.Common.{◌+◌, arith}
use Rattle.amr_tags.proofs.Shifts.{up-first, up-others}
use Rattle.amr_tags.proofs.grow.up.Goals as goal

pub returns-clause-first : goal.returns-clause-first
returns-clause-first c = up-first c.args.word c.with_bit.result c.args.first (c.with_bit.ensures 0 (omega arith))

pub returns-clause-others : goal.returns-clause-others
returns-clause-others c = λ i below. up-others c.args.word c.with_bit.result c.args.first i below (c.with_bit.ensures (i + 1) (omega arith))
