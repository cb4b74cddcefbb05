use Rattle.std.proofs.Common.{arith}
use Rattle.std.proofs.lemmas.Int.{ints}
use Rattle.amr_box.specs.Cells.{parent}
use Rattle.amr_ghost.proofs.Homes.{bounds}
use Rattle.amr_ghost.proofs.Parents.{child_below}
use Rattle.amr_ghost.proofs.places.children_ahead.Goals as goal

pub count_to-requires-clause-order : goal.count_to-requires-clause-order
count_to-requires-clause-order c =
    let k = bounds c.args.b.now (parent c.args.c) c.requires.inside in
    let below = child_below c.args.c.x c.args.b.now.hi.x k.east in
    let top = c.requires.near.east in
    let low = c.requires.near.west in
    let wide = c.requires.near.wide in
    omega (arith, ints, below, top, low, wide, c.hi-high.ensures.x)

pub count_to-requires-in-Y-clause-order : goal.count_to-requires-in-Y-clause-order
count_to-requires-in-Y-clause-order c =
    let k = bounds c.args.b.now (parent c.args.c) c.requires.inside in
    let below = child_below c.args.c.y c.args.b.now.hi.y k.north in
    let top = c.requires.near.north in
    let low = c.requires.near.south in
    let high = c.requires.near.high in
    omega (arith, ints, below, top, low, high, c.hi-high.ensures.y)

pub returns-in-X-clause-up_to_high : goal.returns-in-X-clause-up_to_high
returns-in-X-clause-up_to_high c =
    let top = c.requires.near.east in
    let low = c.requires.near.west in
    let wide = c.requires.near.wide in
    rw c.in-X.is (omega (arith, ints, top, low, wide, c.hi-high.ensures.x, c.count_to.ensures.end))

pub returns-in-Y-clause-up_to_high : goal.returns-in-Y-clause-up_to_high
returns-in-Y-clause-up_to_high c =
    let top = c.requires.near.north in
    let low = c.requires.near.south in
    let high = c.requires.near.high in
    rw c.in-Y.is (omega (arith, ints, top, low, high, c.hi-high.ensures.y, c.count_to-in-Y.ensures.end))
