use Rattle.std.proofs.Common.{◌∙◌, arith, pos, sym}
use Rattle.std.proofs.lemmas.Bool.{cond-true}
use Rattle.std.proofs.lemmas.Int.{ints}
use Rattle.amr_faces.specs.Faces.{flux_beside}
use Rattle.amr_register.proofs.OwnedFlows.{above_limit, below, kept_as}
use Rattle.amr_register.proofs.edges.flow_beside.Goals as goal

pub returns-clause-value : goal.returns-clause-value
returns-clause-value c =
    let low = above_limit c.face_flux.result 4294967295 c.face_flux.ensures.small in
    let high = below c.face_flux.result _ c.face_flux.ensures.small in
    kept_as _ c.face_flux.result _ (omega (arith, ints, low, high)) (c.face_flux.ensures.value ∙ sym (cond-true c.args.counts (flux_beside c.args.p.now c.args.l c.args.patch.now c.args.f) (pos 0) c.if-not-counts.false))

pub returns-clause-low : goal.returns-clause-low
returns-clause-low c =
    let low = above_limit c.face_flux.result 4294967295 c.face_flux.ensures.small in
    let high = below c.face_flux.result _ c.face_flux.ensures.small in
    omega (arith, ints, low, high)

pub returns-clause-high : goal.returns-clause-high
returns-clause-high c =
    let low = above_limit c.face_flux.result 4294967295 c.face_flux.ensures.small in
    let high = below c.face_flux.result _ c.face_flux.ensures.small in
    omega (arith, ints, low, high)
