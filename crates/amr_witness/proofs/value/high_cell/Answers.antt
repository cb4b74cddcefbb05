use Rattle.std.proofs.Common.{arith}
use Rattle.std.proofs.lemmas.Int.{ints}
use Rattle.amr_witness.proofs.Values.{near_x, near_y}
use Rattle.amr_witness.proofs.value.high_cell.Goals as goal

pub returns-clause-near : goal.returns-clause-near
returns-clause-near c =
    let x = near_x c.args.p.now c.args.level c.args.f c.requires.known c.requires.inside in
    let y = near_y c.args.p.now c.args.level c.args.f c.requires.known c.requires.inside in
    record { west = omega (arith, ints, x.0, x.1); east = omega (arith, ints, x.0, x.1); south = omega (arith, ints, y.0, y.1); north = omega (arith, ints, y.0, y.1) }
