use Rattle.std.proofs.Common.{◌∙◌, ap, arith}
use Rattle.std.proofs.lemmas.Int.{ints}
use Rattle.amr_box.specs.declared.Axis.TheVariants.{X, Y}
use Rattle.amr_def.specs.Domain.{domain}
use Rattle.amr_patch.specs.Patches.{box}
use Rattle.amr_patch.specs.Places.{is_face_of}
use Rattle.amr_register.specs.EdgeCells.{flow_if}
use Rattle.amr_register.proofs.Homes.{domain_cell, size_at}
use Rattle.amr_register.proofs.OwnedFlows.{high_face_of_box, low_face_of_box, net_of_parts}
use Rattle.amr_register.proofs.edges.net_beside.Goals as goal

pub flow_beside-west-requires-clause-of_box : goal.flow_beside-west-requires-clause-of_box
flow_beside-west-requires-clause-of_box c = ap (is_face_of (box c.args.patch.now)) c.low_face.ensures ∙ low_face_of_box (box c.args.patch.now) X c.args.c c.requires.of_patch

pub high_face-requires : goal.high_face-requires
high_face-requires c = domain_cell (domain c.args.p.now c.args.l) c.args.c (size_at c.args.p.now c.args.l c.requires.level) (c.requires.inside.at c.args.c c.requires.of_patch)

pub flow_beside-east-requires-clause-of_box : goal.flow_beside-east-requires-clause-of_box
flow_beside-east-requires-clause-of_box c = ap (is_face_of (box c.args.patch.now)) c.high_face.ensures ∙ high_face_of_box (box c.args.patch.now) X c.args.c c.requires.of_patch

pub flow_beside-south-requires-clause-of_box : goal.flow_beside-south-requires-clause-of_box
flow_beside-south-requires-clause-of_box c = ap (is_face_of (box c.args.patch.now)) c.low_face-2.ensures ∙ low_face_of_box (box c.args.patch.now) Y c.args.c c.requires.of_patch

pub high_face-requires-2 : goal.high_face-requires-2
high_face-requires-2 c = domain_cell (domain c.args.p.now c.args.l) c.args.c (size_at c.args.p.now c.args.l c.requires.level) (c.requires.inside.at c.args.c c.requires.of_patch)

pub flow_beside-north-requires-clause-of_box : goal.flow_beside-north-requires-clause-of_box
flow_beside-north-requires-clause-of_box c = ap (is_face_of (box c.args.patch.now)) c.high_face-2.ensures ∙ high_face_of_box (box c.args.patch.now) Y c.args.c c.requires.of_patch

pub returns-clause-value : goal.returns-clause-value
returns-clause-value c =
    let p = c.args.p.now in
    let q = c.args.patch.now in
    let s = c.args.sides in
    net_of_parts _ c.flow_beside-west.result c.flow_beside-east.result c.flow_beside-south.result c.flow_beside-north.result _ _ _ _ (omega (arith, ints))
    (c.flow_beside-west.ensures.value ∙ ap (flow_if p c.args.l q s.west) c.low_face.ensures)
    (c.flow_beside-east.ensures.value ∙ ap (flow_if p c.args.l q s.east) c.high_face.ensures)
    (c.flow_beside-south.ensures.value ∙ ap (flow_if p c.args.l q s.south) c.low_face-2.ensures)
    (c.flow_beside-north.ensures.value ∙ ap (flow_if p c.args.l q s.north) c.high_face-2.ensures)

pub returns-clause-low : goal.returns-clause-low
returns-clause-low c = omega (arith, ints)

pub returns-clause-high : goal.returns-clause-high
returns-clause-high c = omega (arith, ints)

pub overflow_add-result : goal.overflow_add-result
overflow_add-result c =
    let west = c.flow_beside-west.ensures in
    let east = c.flow_beside-east.ensures in
    let south = c.flow_beside-south.ensures in
    let north = c.flow_beside-north.ensures in
    omega (arith, ints, west.low, west.high, east.low, east.high, south.low, south.high, north.low, north.high)
