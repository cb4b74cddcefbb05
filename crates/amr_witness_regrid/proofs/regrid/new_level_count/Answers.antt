use Rattle.std.proofs.Common.{arith}
use Rattle.amr_witness.proofs.States.{count_same}
use Rattle.amr_witness_regrid.proofs.regrid.new_level_count.Goals as goal

pub returns : goal.returns
returns c = let e = count_same c.args.levels.now in omega (arith, e)
