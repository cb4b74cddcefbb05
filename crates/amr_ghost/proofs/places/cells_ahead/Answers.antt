use Rattle.std.proofs.Common.{arith}
use Rattle.std.proofs.lemmas.Int.{ints}
use Rattle.amr_ghost.proofs.places.cells_ahead.Goals as goal

pub count_to-requires-clause-to : goal.count_to-requires-clause-to
count_to-requires-clause-to c = omega (arith, ints)

pub count_to-requires-in-Y-clause-to : goal.count_to-requires-in-Y-clause-to
count_to-requires-in-Y-clause-to c = omega (arith, ints)

pub returns-in-X-clause-some : goal.returns-in-X-clause-some
returns-in-X-clause-some c = omega arith

pub returns-in-Y-clause-some : goal.returns-in-Y-clause-some
returns-in-Y-clause-some c = omega arith
