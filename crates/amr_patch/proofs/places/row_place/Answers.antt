use Rattle.std.proofs.Common.{ℕ, ◌+◌, ◌*◌, ◌<◌, ◌≤◌, sym, subst, arith}
use Rattle.std.proofs.lemmas.Int.{ints}
use Rattle.amr_box.specs.Cells.{height, width}
use Rattle.amr_patch.specs.Places.{grown}
use Rattle.amr_patch.proofs.Rows.{inside, sides, place_is, row_within}
use Rattle.amr_patch.proofs.places.row_place.Goals as goal

pub distance-row-requires : goal.distance-row-requires
distance-row-requires c =
    let i = inside (grown c.args.b.now) c.args.c c.requires.inside in
    omega (arith, ints, i.south, c.lo-lo.ensures.y)

pub distance-column-requires : goal.distance-column-requires
distance-column-requires c =
    let i = inside (grown c.args.b.now) c.args.c c.requires.inside in
    omega (arith, ints, i.west, c.lo-lo.ensures.x)

pub returns-clause-value : goal.returns-clause-value
returns-clause-value c =
    place_is c.args.b.now c.args.c c.distance-row.result c.distance-column.result c.width.result (omega (arith, ints, c.distance-row.ensures.value, c.lo-lo.ensures.y)) (omega (arith, ints, c.distance-column.ensures.value, c.lo-lo.ensures.x)) c.width.ensures.value

pub returns-clause-within : goal.returns-clause-within
returns-clause-within c =
    let b = c.args.b.now in
    let row = c.distance-row.result in
    let column = c.distance-column.result in
    let s = sides b c.requires.near in
    let i = inside (grown b) c.args.c c.requires.inside in
    let p : row < height b + 2 = omega (arith, ints, s.high, i.north, c.distance-row.ensures.value, c.lo-lo.ensures.y) in
    let q : column + c.args.n ≤ width b + 2 = omega (arith, ints, s.wide, c.requires.room, c.distance-column.ensures.value, c.lo-lo.ensures.x) in
    subst (λ (w : ℕ). row * (w + 2) + column + c.args.n ≤ (height b + 2) * (width b + 2)) (sym c.width.ensures.value) (row_within row column c.args.n (width b + 2) (height b + 2) p q)
