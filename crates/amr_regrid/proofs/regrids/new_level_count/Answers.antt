use Rattle.std.proofs.Common.{arith}
use Rattle.amr_regrid.proofs.Bases.{level_count}
use Rattle.amr_regrid.proofs.regrids.new_level_count.Goals as goal

pub returns : goal.returns
returns c = let e = level_count c.args.levels.now in omega (arith, e)
