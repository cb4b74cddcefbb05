use Rattle.std.proofs.Common.{ap, arith}
use Rattle.std.proofs.lemmas.Int.{ints}
use Rattle.amr_box.specs.Cells.{Extent}
use Rattle.amr_box.specs.declared.Axis.TheVariants.{X, Y}
use Rattle.amr_tags.specs.Edges.{in_part}
use Rattle.amr_tags.proofs.Halving.{edges_in_order, least_at}
use Rattle.amr_tags.proofs.edges.least.Goals as goal

pub unwrap-requires : goal.unwrap-requires
unwrap-requires c =
    let x = edges_in_order (in_part c.args.b.now c.args.words.now c.args.part.now) X _ _ c.low_edge-west.ensures.none_below c.high_edge-east.ensures.none_above c.requires.some in
    let y = edges_in_order (in_part c.args.b.now c.args.words.now c.args.part.now) Y _ _ c.low_edge-south.ensures.none_below c.high_edge-north.ensures.none_above c.requires.some in
    c.try_new.ensures.proper.1 (omega (arith, ints, x), omega (arith, ints, y))

pub returns : goal.returns
returns c =
    let is = rw c.unwrap.ensures at c.try_new.ensures.some in
    let west = ap (λ (t : Extent). t.lo.x) is in
    let south = ap (λ (t : Extent). t.lo.y) is in
    let east = ap (λ (t : Extent). t.hi.x) is in
    let north = ap (λ (t : Extent). t.hi.y) is in
    least_at (in_part c.args.b.now c.args.words.now c.args.part.now) c.unwrap.result c.low_edge-west.result c.low_edge-south.result c.high_edge-east.result c.high_edge-north.result
    (omega (arith, ints, west))
    (omega (arith, ints, south))
    (omega (arith, ints, east))
    (omega (arith, ints, north))
    c.low_edge-west.ensures.none_below
    c.low_edge-west.ensures.one_there
    c.low_edge-south.ensures.none_below
    c.low_edge-south.ensures.one_there
    c.high_edge-east.ensures.none_above
    c.high_edge-east.ensures.one_there
    c.high_edge-north.ensures.none_above
    c.high_edge-north.ensures.one_there
