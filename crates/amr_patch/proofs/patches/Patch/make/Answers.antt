use Rattle.std.proofs.Common.{◌∙◌, ap, false, pos}
use Rattle.std.specs.Prelude.{slice_index, slice_index_or}
use Rattle.amr_patch.specs.declared.patches.PatchData.{PatchData}
use Rattle.amr_patch.specs.Places.{place}
use Rattle.amr_patch.specs.Patches.{mark_in, value_in}
use Rattle.amr_patch.proofs.Edges.{nothing_flows}
use Rattle.amr_patch.proofs.patches.Patch.make.Goals as goal

pub returns-clause-values : goal.returns-clause-values
unfolding value_in
returns-clause-values c = λ d. ap (λ (t : PatchData). slice_index t.values.items (place c.args.b d)) c.in_ok-new.ensures.ok ∙ c.in_ok-values.ensures.none (place c.args.b d)

pub returns-clause-marks : goal.returns-clause-marks
unfolding mark_in
returns-clause-marks c = λ d. ap (λ (t : PatchData). slice_index_or t.marks.items (place c.args.b d) false) c.in_ok-new.ensures.ok ∙ c.in_ok-marks.ensures.none (place c.args.b d)

pub returns-clause-fluxes : goal.returns-clause-fluxes
returns-clause-fluxes c =
    let held = c.in_ok-new.ensures.ok in
    nothing_flows _
    (λ k. ap (λ (t : PatchData). slice_index_or t.x_low.items k (pos 0)) held ∙ c.in_ok-x_low.ensures.none k)
    (λ k. ap (λ (t : PatchData). slice_index_or t.x_high.items k (pos 0)) held ∙ c.in_ok-x_high.ensures.none k)
    (λ k. ap (λ (t : PatchData). slice_index_or t.y_low.items k (pos 0)) held ∙ c.in_ok-y_low.ensures.none k)
    (λ k. ap (λ (t : PatchData). slice_index_or t.y_high.items k (pos 0)) held ∙ c.in_ok-y_high.ensures.none k)
