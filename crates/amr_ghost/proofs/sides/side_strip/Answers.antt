use Rattle.std.proofs.Common.{arith}
use Rattle.std.proofs.lemmas.Int.{ints}
use Rattle.amr_ghost.proofs.sides.side_strip.Goals as goal

pub overflow_sub-result : goal.overflow_sub-result
overflow_sub-result c = omega (arith, ints)

pub overflow_add-result : goal.overflow_add-result
overflow_add-result c = omega (arith, ints)

pub overflow_sub-result-in-South : goal.overflow_sub-result-in-South
overflow_sub-result-in-South c = omega (arith, ints)

pub overflow_add-result-in-North : goal.overflow_add-result-in-North
overflow_add-result-in-North c = omega (arith, ints)
