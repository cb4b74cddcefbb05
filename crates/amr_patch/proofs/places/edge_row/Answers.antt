use Rattle.std.proofs.Common.{◌-ℤ◌, sym, arith}
use Rattle.std.proofs.lemmas.Int.{ints}
use Rattle.amr_patch.proofs.Rows.{sides, zero-cut}
use Rattle.amr_patch.proofs.Edges.{x_edge}
use Rattle.amr_patch.proofs.places.edge_row.Goals as goal

pub distance-requires : goal.distance-requires
distance-requires c = let e = x_edge c.args.b.now c.args.c c.requires.edge in omega (arith, ints, e.from, c.lo.ensures.y)

pub returns-clause-value : goal.returns-clause-value
returns-clause-value c = sym (zero-cut (c.args.c.y -ℤ c.args.b.now.lo.y) c.distance.result (omega (arith, ints, c.distance.ensures.value, c.lo.ensures.y)))

pub returns-clause-within : goal.returns-clause-within
returns-clause-within c =
    let e = x_edge c.args.b.now c.args.c c.requires.edge in
    let s = sides c.args.b.now c.requires.near in
    omega (arith, ints, e.to, s.high, c.distance.ensures.value, c.lo.ensures.y)
