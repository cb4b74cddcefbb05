use Rattle.std.proofs.Common.{◌∙◌, ap, pos}
use Rattle.std.specs.Prelude.{slice_index_or}
use Rattle.amr_patch.specs.declared.patches.PatchData.{PatchData}
use Rattle.amr_patch.proofs.Edges.{nothing_flows}
use Rattle.amr_patch.proofs.patches.Patch.copy.Goals as goal

pub returns-clause-fluxes : goal.returns-clause-fluxes
returns-clause-fluxes c =
    let held = c.in_ok-new.ensures.ok in
    nothing_flows _
    (λ k. ap (λ (t : PatchData). slice_index_or t.x_low.items k (pos 0)) held ∙ c.in_ok-x_low.ensures.none k)
    (λ k. ap (λ (t : PatchData). slice_index_or t.x_high.items k (pos 0)) held ∙ c.in_ok-x_high.ensures.none k)
    (λ k. ap (λ (t : PatchData). slice_index_or t.y_low.items k (pos 0)) held ∙ c.in_ok-y_low.ensures.none k)
    (λ k. ap (λ (t : PatchData). slice_index_or t.y_high.items k (pos 0)) held ∙ c.in_ok-y_high.ensures.none k)
