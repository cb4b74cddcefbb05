use Rattle.std.proofs.Common.{arith}
use Rattle.amr_codec.proofs.Domains.{four_small}
use Rattle.amr_codec.proofs.sizes.power_of_four.Goals as goal

pub pow-requires : goal.pow-requires
pow-requires c = omega (arith, four_small c.args.l c.requires)

pub returns-clause-few : goal.returns-clause-few
returns-clause-few c = omega (arith, four_small c.args.l c.requires, c.pow.ensures)
