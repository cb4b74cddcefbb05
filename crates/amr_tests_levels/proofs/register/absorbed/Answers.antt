use Rattle.std.proofs.Common.{arith}
use Rattle.std.proofs.lemmas.Int.{ints}
use Rattle.amr_tests_levels.proofs.register.absorbed.Goals as goal

pub absorb-requires-clause-low : goal.absorb-requires-clause-low
absorb-requires-clause-low c = λ d. omega (arith, ints, c.entry-coarse.ensures d)

pub absorb-requires-clause-high : goal.absorb-requires-clause-high
absorb-requires-clause-high c = λ d. omega (arith, ints, c.entry-coarse.ensures d)
