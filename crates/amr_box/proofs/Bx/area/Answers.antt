use Rattle.std.proofs.Common.{arith}
use Rattle.amr_box.proofs.Parts.{length-cells_of}
use Rattle.amr_box.proofs.Bx.area.Goals as goal

pub returns-clause-cells : goal.returns-clause-cells
returns-clause-cells c = grind (arith, length-cells_of c.args.self.now)
