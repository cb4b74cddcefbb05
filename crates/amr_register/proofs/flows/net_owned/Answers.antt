use Rattle.std.proofs.Common.{arith, ap, ◌∙◌}
use Rattle.std.proofs.lemmas.Int.{ints}
use Rattle.amr_register.specs.CoarseFlows.{owned_flow}
use Rattle.amr_register.proofs.OwnedFlows.{net_of_parts}
use Rattle.amr_register.proofs.flows.net_owned.Goals as goal

pub returns-clause-value : goal.returns-clause-value
returns-clause-value c =
    let p = c.args.p.now in
    let q = c.args.patch.now in
    let s = c.args.sides in
    net_of_parts _ c.owned_flow-west.result c.owned_flow-east.result c.owned_flow-south.result c.owned_flow-north.result _ _ _ _ (omega (arith, ints))
    (c.owned_flow-west.ensures.value ∙ ap (owned_flow p c.args.l q s.west) c.low_face.ensures)
    (c.owned_flow-east.ensures.value ∙ ap (owned_flow p c.args.l q s.east) c.high_face.ensures)
    (c.owned_flow-south.ensures.value ∙ ap (owned_flow p c.args.l q s.south) c.low_face-2.ensures)
    (c.owned_flow-north.ensures.value ∙ ap (owned_flow p c.args.l q s.north) c.high_face-2.ensures)

pub returns-clause-low : goal.returns-clause-low
returns-clause-low c = omega (arith, ints)

pub returns-clause-high : goal.returns-clause-high
returns-clause-high c = omega (arith, ints)

pub overflow_add-result : goal.overflow_add-result
overflow_add-result c =
    let west = c.owned_flow-west.ensures in
    let east = c.owned_flow-east.ensures in
    let south = c.owned_flow-south.ensures in
    let north = c.owned_flow-north.ensures in
    omega (arith, ints, west.low, west.high, east.low, east.high, south.low, south.high, north.low, north.high)
