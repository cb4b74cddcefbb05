use Rattle.std.proofs.Common.{arith}
use Rattle.std.proofs.lemmas.Int.{ints}
use Rattle.amr_patch.proofs.Rows.{sides}
use Rattle.amr_criterion.proofs.patches.column_place.Goals as goal

pub distance-requires : goal.distance-requires
distance-requires c = record { order = omega (arith, ints, c.lo.ensures.x, c.requires.row.west, c.requires.near.west) }

pub returns-clause-within : goal.returns-clause-within
returns-clause-within c = let side = (sides c.args.b.now c.requires.near).wide in omega (arith, ints, c.lo.ensures.x, c.distance.ensures.value, side, c.requires.row.east, c.requires.near.west)
