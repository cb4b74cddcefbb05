use Rattle.std.proofs.Common.{◌≡◌, pos, arith}
use Rattle.std.proofs.lemmas.Int.{ints}
use Rattle.amr_patch.proofs.Rows.{sides}
use Rattle.amr_faces.proofs.Places.{corner}
use Rattle.amr_flux.proofs.Entries.{column_fits, row_fits, stands}
use Rattle.amr_flux.proofs.shape.shape_of.Goals as goal

pub coordinate-column-requires : goal.coordinate-column-requires
coordinate-column-requires c = let k = corner c.args.p.now c.args.level c.args.b.now c.requires.near c.requires.inside in omega (arith, ints, k.west, c.lo-lo.ensures.x)

pub coordinate-row-requires : goal.coordinate-row-requires
coordinate-row-requires c = let k = corner c.args.p.now c.args.level c.args.b.now c.requires.near c.requires.inside in omega (arith, ints, k.south, c.lo-lo.ensures.y)

pub x_share-requires-clause-inside : goal.x_share-requires-clause-inside
x_share-requires-clause-inside c =
    let y : pos c.coordinate-row.result ≡ c.args.b.now.lo.y = omega (arith, ints, c.coordinate-row.ensures, c.lo-lo.ensures.y) in
    omega (arith, row_fits c.args.p.now c.args.level c.args.b.now c.coordinate-row.result c.requires.near c.requires.inside y, (sides c.args.b.now c.requires.near).some_rows)

pub y_share-requires-clause-inside : goal.y_share-requires-clause-inside
y_share-requires-clause-inside c =
    let x : pos c.coordinate-column.result ≡ c.args.b.now.lo.x = omega (arith, ints, c.coordinate-column.ensures, c.lo-lo.ensures.x) in
    omega (arith, column_fits c.args.p.now c.args.level c.args.b.now c.coordinate-column.result c.requires.near c.requires.inside x, (sides c.args.b.now c.requires.near).some_columns)

pub returns-clause-stands : goal.returns-clause-stands
returns-clause-stands c =
    let x : pos c.coordinate-column.result ≡ c.args.b.now.lo.x = omega (arith, ints, c.coordinate-column.ensures, c.lo-lo.ensures.x) in
    let y : pos c.coordinate-row.result ≡ c.args.b.now.lo.y = omega (arith, ints, c.coordinate-row.ensures, c.lo-lo.ensures.y) in
    stands c.args.p.now c.args.level c.args.b.now c.coordinate-column.result c.coordinate-row.result c.requires.near c.requires.inside x y
