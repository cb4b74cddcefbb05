use Rattle.std.proofs.Common.{arith}
use Rattle.std.proofs.lemmas.Int.{ints}
use Rattle.amr_regrid.proofs.blocks.refined.Goals as goal

pub returns-clause-near : goal.returns-clause-near
returns-clause-near c =
    let first = c.refine2-twice.ensures.corners in
    let second = c.refine2-2.ensures.corners in
    let third = c.refine2-3.ensures.corners in
    record {
      west = omega (arith, ints, first.west_is, second.west_is, third.west_is, c.requires.low.west);
      east = omega (arith, ints, first.east_is, second.east_is, third.east_is, c.requires.low.east);
      south = omega (arith, ints, first.south_is, second.south_is, third.south_is, c.requires.low.south);
      north = omega (arith, ints, first.north_is, second.north_is, third.north_is, c.requires.low.north);
      wide = omega (arith, ints, first.west_is, second.west_is, third.west_is, first.east_is, second.east_is, third.east_is, c.lo-low.ensures.proper.wide);
      high = omega (arith, ints, first.south_is, second.south_is, third.south_is, first.north_is, second.north_is, third.north_is, c.lo-low.ensures.proper.high);
    }
