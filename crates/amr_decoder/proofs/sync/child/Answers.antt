use Rattle.std.proofs.Common.{arith}
use Rattle.std.proofs.lemmas.Int.{ints}
use Rattle.amr_box.proofs.CellEquality.{same_cell}
use Rattle.amr_decoder.proofs.sync.child.Goals as goal

pub returns : goal.returns
returns c = same_cell (omega (arith, ints, c.requires.west, c.requires.east, c.requires.one_of_four)) (omega (arith, ints, c.requires.south, c.requires.north, c.requires.one_of_four))
