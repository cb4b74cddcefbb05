use Rattle.std.proofs.Common.{arith}
use Rattle.std.proofs.lemmas.Int.{ints}
use Rattle.amr_nest.proofs.Turns.{turn_most, turn_small}
use Rattle.amr_nest.proofs.reach.shift.Goals as goal

pub overflow_sub-result : goal.overflow_sub-result
overflow_sub-result c = omega (arith, ints, turn_small c.args.n c.args.turn c.requires.few c.requires.turn, c.requires.few)

pub returns-clause-value : goal.returns-clause-value
returns-clause-value c = omega (arith, ints, turn_small c.args.n c.args.turn c.requires.few c.requires.turn, c.requires.few)

pub returns-clause-low : goal.returns-clause-low
returns-clause-low c = omega (arith, ints, turn_small c.args.n c.args.turn c.requires.few c.requires.turn, c.requires.few)

pub returns-clause-high : goal.returns-clause-high
returns-clause-high c = omega (arith, ints, turn_small c.args.n c.args.turn c.requires.few c.requires.turn, turn_most c.args.n c.args.turn c.requires.turn, c.requires.few)
