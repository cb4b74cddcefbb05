use Rattle.std.proofs.Common.{ap, ◌∙◌, arith}
use Rattle.std.proofs.lemmas.Int.{ints}
use Rattle.amr_box.proofs.Numbers.{side-is}
use Rattle.amr_cluster.proofs.cut_boxes.inner.Goals as goal

pub overflow_cast-lo : goal.overflow_cast-lo
overflow_cast-lo c = omega (arith, ints, c.requires.near.west, c.requires.near.east, c.requires.near.south, c.requires.near.north, side-is c.args.part.lo.x c.args.part.hi.x c.requires.near.wide, side-is c.args.part.lo.y c.args.part.hi.y c.requires.near.high)

pub overflow_add-lo : goal.overflow_add-lo
overflow_add-lo c = omega (arith, ints, c.requires.near.west, c.requires.near.east, c.requires.near.south, c.requires.near.north, side-is c.args.part.lo.x c.args.part.hi.x c.requires.near.wide, side-is c.args.part.lo.y c.args.part.hi.y c.requires.near.high)

pub overflow_cast-lo-2 : goal.overflow_cast-lo-2
overflow_cast-lo-2 c = omega (arith, ints, c.requires.near.west, c.requires.near.east, c.requires.near.south, c.requires.near.north, side-is c.args.part.lo.x c.args.part.hi.x c.requires.near.wide, side-is c.args.part.lo.y c.args.part.hi.y c.requires.near.high)

pub overflow_add-lo-2 : goal.overflow_add-lo-2
overflow_add-lo-2 c = omega (arith, ints, c.requires.near.west, c.requires.near.east, c.requires.near.south, c.requires.near.north, side-is c.args.part.lo.x c.args.part.hi.x c.requires.near.wide, side-is c.args.part.lo.y c.args.part.hi.y c.requires.near.high)

pub overflow_cast-hi : goal.overflow_cast-hi
overflow_cast-hi c = omega (arith, ints, c.requires.near.west, c.requires.near.east, c.requires.near.south, c.requires.near.north, side-is c.args.part.lo.x c.args.part.hi.x c.requires.near.wide, side-is c.args.part.lo.y c.args.part.hi.y c.requires.near.high)

pub overflow_add-hi : goal.overflow_add-hi
overflow_add-hi c = omega (arith, ints, c.requires.near.west, c.requires.near.east, c.requires.near.south, c.requires.near.north, side-is c.args.part.lo.x c.args.part.hi.x c.requires.near.wide, side-is c.args.part.lo.y c.args.part.hi.y c.requires.near.high)

pub overflow_cast-hi-2 : goal.overflow_cast-hi-2
overflow_cast-hi-2 c = omega (arith, ints, c.requires.near.west, c.requires.near.east, c.requires.near.south, c.requires.near.north, side-is c.args.part.lo.x c.args.part.hi.x c.requires.near.wide, side-is c.args.part.lo.y c.args.part.hi.y c.requires.near.high)

pub overflow_add-hi-2 : goal.overflow_add-hi-2
overflow_add-hi-2 c = omega (arith, ints, c.requires.near.west, c.requires.near.east, c.requires.near.south, c.requires.near.north, side-is c.args.part.lo.x c.args.part.hi.x c.requires.near.wide, side-is c.args.part.lo.y c.args.part.hi.y c.requires.near.high)

pub unwrap-requires : goal.unwrap-requires
unwrap-requires c = c.try_new.ensures.proper.1 (omega (arith, ints, c.requires.near.west, c.requires.near.east, c.requires.near.south, c.requires.near.north, side-is c.args.part.lo.x c.args.part.hi.x c.requires.near.wide, side-is c.args.part.lo.y c.args.part.hi.y c.requires.near.high), omega (arith, ints, c.requires.near.west, c.requires.near.east, c.requires.near.south, c.requires.near.north, side-is c.args.part.lo.x c.args.part.hi.x c.requires.near.wide, side-is c.args.part.lo.y c.args.part.hi.y c.requires.near.high))

pub returns : goal.returns
returns c =
    let is = rw c.unwrap.ensures at c.try_new.ensures.some in
    record {
      west_is = ap (λ b. b.lo.x) is ∙ omega (arith, ints, c.requires.near.west, c.requires.near.east, c.requires.near.south, c.requires.near.north, side-is c.args.part.lo.x c.args.part.hi.x c.requires.near.wide, side-is c.args.part.lo.y c.args.part.hi.y c.requires.near.high);
      south_is = ap (λ b. b.lo.y) is ∙ omega (arith, ints, c.requires.near.west, c.requires.near.east, c.requires.near.south, c.requires.near.north, side-is c.args.part.lo.x c.args.part.hi.x c.requires.near.wide, side-is c.args.part.lo.y c.args.part.hi.y c.requires.near.high);
      east_is = ap (λ b. b.hi.x) is ∙ omega (arith, ints, c.requires.near.west, c.requires.near.east, c.requires.near.south, c.requires.near.north, side-is c.args.part.lo.x c.args.part.hi.x c.requires.near.wide, side-is c.args.part.lo.y c.args.part.hi.y c.requires.near.high);
      north_is = ap (λ b. b.hi.y) is ∙ omega (arith, ints, c.requires.near.west, c.requires.near.east, c.requires.near.south, c.requires.near.north, side-is c.args.part.lo.x c.args.part.hi.x c.requires.near.wide, side-is c.args.part.lo.y c.args.part.hi.y c.requires.near.high);
    }
