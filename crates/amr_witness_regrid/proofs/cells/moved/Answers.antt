use Rattle.std.proofs.Common.{arith}
use Rattle.std.proofs.lemmas.Int.{ints}
use Rattle.amr_box.proofs.CellEquality.{same_cells}
use Rattle.amr_witness_regrid.proofs.cells.moved.Goals as goal

pub returns-clause-value : goal.returns-clause-value
returns-clause-value c = same_cells _ _ (omega (arith, ints, c.requires.near.west, c.requires.near.east, c.requires.offset.west, c.requires.offset.east)) (omega (arith, ints, c.requires.near.south, c.requires.near.north, c.requires.offset.south, c.requires.offset.north))
