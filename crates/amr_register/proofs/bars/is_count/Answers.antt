use Rattle.std.proofs.Common.{arith}
use Rattle.amr_register.proofs.BarLookups.{is_point}
use Rattle.amr_register.proofs.bars.is_count.Goals as goal

pub returns-clause-parts : goal.returns-clause-parts
returns-clause-parts c = λ yes.
    is_point c.args.bars.now c.args.c c.args.count c.requires.in_rows (c.starts_last.ensures c.if-not-starts_last.false) (c.starts_later.ensures yes) (omega (arith, c.if-bars-count.false))
