use Rattle.std.proofs.Common.{arith}
use Rattle.std.proofs.lemmas.Int.{ints}
use Rattle.amr_box.proofs.Halves.{refined}
use Rattle.amr_box.proofs.Bx.refine2.Goals as goal

pub returns-clause-cells : goal.returns-clause-cells
returns-clause-cells c = refined c.args.self.now _ (record { west_is = omega (arith, ints); south_is = omega (arith, ints); east_is = omega (arith, ints); north_is = omega (arith, ints) })
