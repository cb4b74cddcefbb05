use Rattle.std.proofs.Common.{◌≡◌, pos, ◌-ℤ◌, arith}
use Rattle.std.proofs.lemmas.Int.{ints}
use Rattle.amr_tags.proofs.CellCounts.{side_inside, side_order}
use Rattle.amr_tags.proofs.scan.window_of.Goals as goal

pub offset-west-requires-clause-order : goal.offset-west-requires-clause-order
offset-west-requires-clause-order c = omega (arith, ints)

pub offset-west-requires-clause-near : goal.offset-west-requires-clause-near
offset-west-requires-clause-near c = omega (arith, ints)

pub offset-south-requires-clause-order : goal.offset-south-requires-clause-order
offset-south-requires-clause-order c = omega (arith, ints)

pub offset-south-requires-clause-near : goal.offset-south-requires-clause-near
offset-south-requires-clause-near c = omega (arith, ints)

pub offset-east-requires-clause-order : goal.offset-east-requires-clause-order
offset-east-requires-clause-order c = omega (arith, ints)

pub offset-east-requires-clause-near : goal.offset-east-requires-clause-near
offset-east-requires-clause-near c = omega (arith, ints)

pub offset-north-requires-clause-order : goal.offset-north-requires-clause-order
offset-north-requires-clause-order c = omega (arith, ints)

pub offset-north-requires-clause-near : goal.offset-north-requires-clause-near
offset-north-requires-clause-near c = omega (arith, ints)

pub returns-clause-place : goal.returns-clause-place
returns-clause-place c =
    let b = c.args.b.now in
    let part = c.args.part.now in
    let west : pos c.offset-west.result ≡ part.lo.x -ℤ b.lo.x = omega (arith, ints) in
    let south : pos c.offset-south.result ≡ part.lo.y -ℤ b.lo.y = omega (arith, ints) in
    let east : pos c.offset-east.result ≡ part.hi.x -ℤ b.lo.x = omega (arith, ints) in
    let north : pos c.offset-north.result ≡ part.hi.y -ℤ b.lo.y = omega (arith, ints) in
    record {
      west_is = west;
      south_is = south;
      east_is = east;
      north_is = north;
      wide = side_order b.lo.x part.lo.x part.hi.x c.offset-west.result c.offset-east.result c.requires.part.wide west east;
      high = side_order b.lo.y part.lo.y part.hi.y c.offset-south.result c.offset-north.result c.requires.part.high south north;
      columns = side_inside b.lo.x b.hi.x part.hi.x c.offset-east.result c.requires.part.east east;
      rows = side_inside b.lo.y b.hi.y part.hi.y c.offset-north.result c.requires.part.north north;
    }

pub returns-clause-few_columns : goal.returns-clause-few_columns
returns-clause-few_columns c = c.offset-east.ensures.small

pub returns-clause-few_rows : goal.returns-clause-few_rows
returns-clause-few_rows c = c.offset-north.ensures.small
