use Rattle.std.proofs.Common.{arith}
use Rattle.std.proofs.lemmas.Int.{ints}
use Rattle.amr_box.proofs.CellEquality.{same_cells}
use Rattle.amr_witness_regrid.proofs.CellRows.{inside_side}
use Rattle.amr_witness_regrid.proofs.cells.cell_in.Goals as goal

pub returns : goal.returns
returns c =
    let b = c.args.b.now in
    let x = inside_side b.lo.x b.hi.x c.args.i c.requires.near.wide c.requires.column in
    let y = inside_side b.lo.y b.hi.y c.args.j c.requires.near.high c.requires.row in
    same_cells _ _ (omega (arith, ints, x, c.lo.ensures.x, c.requires.near.west, c.requires.near.east)) (omega (arith, ints, y, c.lo-2.ensures.y, c.requires.near.south, c.requires.near.north))
