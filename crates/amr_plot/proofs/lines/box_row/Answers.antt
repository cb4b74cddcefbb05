use Rattle.std.proofs.Common.{◌≡◌, pos, arith}
use Rattle.std.proofs.lemmas.Int.{ints}
use Rattle.amr_patch.proofs.Corners.{corners}
use Rattle.amr_plot.proofs.Fragments.{box_fragments}
use Rattle.amr_plot.proofs.Layers.{fine}
use Rattle.amr_plot.proofs.lines.box_row.Goals as goal

pub number-requires : goal.number-requires
number-requires c =
    let k = corners c.args.layer.problem.now c.args.layer.l c.args.b.now (fine c.args.layer c.requires.layer) c.lo-lo.ensures.proper c.requires.of_layer.inside in
    omega (arith, ints, k.west, c.lo-lo.ensures.x)

pub number-requires-2 : goal.number-requires-2
number-requires-2 c =
    let k = corners c.args.layer.problem.now c.args.layer.l c.args.b.now (fine c.args.layer c.requires.layer) c.lo-lo.ensures.proper c.requires.of_layer.inside in
    omega (arith, ints, k.south, c.lo-lo.ensures.y)

pub number-requires-3 : goal.number-requires-3
number-requires-3 c =
    let k = corners c.args.layer.problem.now c.args.layer.l c.args.b.now (fine c.args.layer c.requires.layer) c.lo-lo.ensures.proper c.requires.of_layer.inside in
    omega (arith, ints, k.east, c.hi-hi.ensures.x)

pub number-requires-4 : goal.number-requires-4
number-requires-4 c =
    let k = corners c.args.layer.problem.now c.args.layer.l c.args.b.now (fine c.args.layer c.requires.layer) c.lo-lo.ensures.proper c.requires.of_layer.inside in
    omega (arith, ints, k.north, c.hi-hi.ensures.y)

pub returns : goal.returns
returns c =
    let b = c.args.b.now in
    let west : pos c.number.result ≡ b.lo.x = omega (arith, ints, c.number.ensures, c.lo-lo.ensures.x) in
    let south : pos c.number-2.result ≡ b.lo.y = omega (arith, ints, c.number-2.ensures, c.lo-lo.ensures.y) in
    let east : pos c.number-3.result ≡ b.hi.x = omega (arith, ints, c.number-3.ensures, c.hi-hi.ensures.x) in
    let north : pos c.number-4.result ≡ b.hi.y = omega (arith, ints, c.number-4.ensures, c.hi-hi.ensures.y) in
    box_fragments b c.number.result c.number-2.result c.number-3.result c.number-4.result west south east north
