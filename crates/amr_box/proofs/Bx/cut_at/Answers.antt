use Rattle.std.proofs.Common.{arith}
use Rattle.std.proofs.lemmas.Int.{ints}
use Rattle.amr_box.proofs.Parts.{below_x, below_y, from_x, from_y}
use Rattle.amr_box.proofs.Bx.cut_at.Goals as goal

pub returns-in-X-clause-low_cells : goal.returns-in-X-clause-low_cells
returns-in-X-clause-low_cells c = let above_low = rw c.in-X.is at c.requires.above_low in below_x c.args.axis c.args.i c.args.self.now _ c.in-X.is c.requires.up_to_high (record { west_is = omega (arith, ints); south_is = omega (arith, ints); east_is = omega (arith, ints); north_is = omega (arith, ints) })

pub returns-in-X-clause-high_cells : goal.returns-in-X-clause-high_cells
returns-in-X-clause-high_cells c = from_x c.args.axis c.args.i c.args.self.now _ c.in-X.is c.requires.above_low (record { west_is = omega (arith, ints); south_is = omega (arith, ints); east_is = omega (arith, ints); north_is = omega (arith, ints) })

pub returns-in-Y-clause-low_cells : goal.returns-in-Y-clause-low_cells
returns-in-Y-clause-low_cells c = let above_low = rw c.in-Y.is at c.requires.above_low in below_y c.args.axis c.args.i c.args.self.now _ c.in-Y.is c.requires.up_to_high (record { west_is = omega (arith, ints); south_is = omega (arith, ints); east_is = omega (arith, ints); north_is = omega (arith, ints) })

pub returns-in-Y-clause-high_cells : goal.returns-in-Y-clause-high_cells
returns-in-Y-clause-high_cells c = from_y c.args.axis c.args.i c.args.self.now _ c.in-Y.is c.requires.above_low (record { west_is = omega (arith, ints); south_is = omega (arith, ints); east_is = omega (arith, ints); north_is = omega (arith, ints) })
