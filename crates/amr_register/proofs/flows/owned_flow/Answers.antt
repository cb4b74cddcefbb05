use Rattle.std.proofs.Common.{◌∙◌, ap, arith, sym}
use Rattle.std.proofs.lemmas.Int.{ints}
use Rattle.amr_box.specs.Cells.{Extent, holds}
use Rattle.amr_patch.specs.Patches.{box}
use Rattle.amr_patch.specs.Places.{is_face_of}
use Rattle.amr_faces.specs.Faces.{flux_beside}
use Rattle.amr_register.proofs.OwnedFlows.{above, below, kept_as, low_face_of_box}
use Rattle.amr_register.proofs.Owners.{no_owner, none_counts, one_owner}
use Rattle.amr_register.proofs.flows.owned_flow.Goals as goal

pub returns-then-not-counts-clause-value : goal.returns-then-not-counts-clause-value
returns-then-not-counts-clause-value c = none_counts c.args.p.now c.args.l c.args.patch.now c.args.counts c.args.f c.if-not-counts.true

pub returns-then-not-holds-clause-value : goal.returns-then-not-holds-clause-value
returns-then-not-holds-clause-value c =
    no_owner c.args.p.now c.args.l c.args.patch.now c.args.counts c.args.f _ c.home_of-high.result c.domain.ensures _ c.home_of-high.ensures c.high_cell.ensures
    (ap (λ (b : Extent). holds b c.home_of-high.result) (sym c.bx.ensures.value) ∙ sym c.holds.ensures ∙ c.if-not-holds.true)

pub face_flux-requires-clause-of_box : goal.face_flux-requires-clause-of_box
face_flux-requires-clause-of_box c =
    let b = box c.args.patch.now in
    ap (is_face_of b) c.low_face.ensures
    ∙ low_face_of_box b c.args.f.axis c.home_of-high.result (ap (λ (x : Extent). holds x c.home_of-high.result) (sym c.bx.ensures.value) ∙ sym c.holds.ensures ∙ c.if-not-holds.false)

pub returns-clause-value : goal.returns-clause-value
returns-clause-value c =
    let q = c.args.patch.now in
    let low = above c.face_flux.result _ c.face_flux.ensures.small in
    let high = below c.face_flux.result _ c.face_flux.ensures.small in
    kept_as _ c.face_flux.result _ (omega (arith, ints, low, high))
    (c.face_flux.ensures.value ∙ ap (flux_beside c.args.p.now c.args.l q) c.low_face.ensures
    ∙ one_owner c.args.p.now c.args.l q c.args.counts c.args.f _ c.home_of-high.result c.domain.ensures _ c.home_of-high.ensures c.high_cell.ensures c.if-not-counts.false
    (ap (λ (b : Extent). holds b c.home_of-high.result) (sym c.bx.ensures.value) ∙ sym c.holds.ensures ∙ c.if-not-holds.false))

pub returns-clause-low : goal.returns-clause-low
returns-clause-low c = let h = above c.face_flux.result _ c.face_flux.ensures.small in omega (arith, ints, h)

pub returns-clause-high : goal.returns-clause-high
returns-clause-high c = let h = below c.face_flux.result _ c.face_flux.ensures.small in omega (arith, ints, h)
