use Rattle.std.proofs.Common.{arith}
use Rattle.std.proofs.lemmas.Int.{ints}
use Rattle.amr_patch.proofs.Rows.{inside}
use Rattle.amr_patch.proofs.places.columns_from.Goals as goal

pub distance-more-requires : goal.distance-more-requires
distance-more-requires c = let i = inside c.args.b.now c.args.c c.requires.inside in omega (arith, ints, i.east, c.hi.ensures.x)

pub overflow_cast-result : goal.overflow_cast-result
overflow_cast-result c = let i = inside c.args.b.now c.args.c c.requires.inside in omega (arith, ints, i.west, i.east, c.requires.near.west, c.requires.near.east, c.hi.ensures.x, c.distance-more.ensures.value)
