use Rattle.std.proofs.Common.{arith}
use Rattle.amr_decoder.proofs.LevelReadings.{four_small}
use Rattle.amr_decoder.proofs.levels.power_of_four.Goals as goal

pub pow-requires : goal.pow-requires
pow-requires c = omega (arith, four_small c.args.l c.requires)

pub returns-clause-few : goal.returns-clause-few
returns-clause-few c = omega (arith, four_small c.args.l c.requires, c.pow.ensures)
