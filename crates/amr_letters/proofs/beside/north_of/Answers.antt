use Rattle.std.proofs.Common.{arith}
use Rattle.std.proofs.lemmas.Int.{ints}
use Rattle.amr_patch.proofs.Rows.{sides}
use Rattle.amr_box.proofs.CellEquality.{same_cell}
use Rattle.amr_letters.proofs.beside.north_of.Goals as goal

pub returns : goal.returns
returns c =
    let s = sides c.args.b.now c.requires.near in
    same_cell (omega (arith, ints, c.lo.ensures.x, c.requires.inside, s.wide, c.requires.near.west, c.requires.near.east)) (omega (arith, ints, c.hi.ensures.y, c.requires.near.north, c.requires.near.south, c.requires.near.high))
