use Rattle.std.proofs.Common.{arith}
use Rattle.std.proofs.lemmas.Int.{ints}
use Rattle.amr_box.proofs.Halves.{grown_cells}
use Rattle.amr_box.proofs.Bx.grow.Goals as goal

pub returns-clause-cells : goal.returns-clause-cells
returns-clause-cells c = grown_cells c.args.n c.args.self.now _ c.lo-lo.ensures.proper (record { west_is = omega (arith, ints); south_is = omega (arith, ints); east_is = omega (arith, ints); north_is = omega (arith, ints) })
