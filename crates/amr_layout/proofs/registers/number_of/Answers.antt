use Rattle.std.proofs.Common.{arith}
use Rattle.amr_layout.proofs.Numbers.{number_is, number_within}
use Rattle.amr_layout.proofs.registers.number_of.Goals as goal

pub overflow_sub-result : goal.overflow_sub-result
overflow_sub-result c = omega (arith, number_is c.args.cells.now c.args.c c.requires.ordered c.requires.there c.count_up_to.result c.count_up_to.ensures.within c.count_up_to.ensures.parts)

pub returns-clause-number : goal.returns-clause-number
returns-clause-number c = omega (arith, number_is c.args.cells.now c.args.c c.requires.ordered c.requires.there c.count_up_to.result c.count_up_to.ensures.within c.count_up_to.ensures.parts)

pub returns-clause-within : goal.returns-clause-within
returns-clause-within c =
    omega (arith, number_is c.args.cells.now c.args.c c.requires.ordered c.requires.there c.count_up_to.result c.count_up_to.ensures.within c.count_up_to.ensures.parts, number_within c.args.cells.now c.args.c c.requires.ordered c.requires.there)
