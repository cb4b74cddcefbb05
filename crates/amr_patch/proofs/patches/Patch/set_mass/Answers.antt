use Rattle.std.proofs.Common.{◌∙◌, ap}
use Rattle.std.specs.Prelude.{slice_index}
use Rattle.amr_patch.specs.declared.patches.PatchData.{PatchData}
use Rattle.amr_patch.specs.Places.{place}
use Rattle.amr_patch.specs.Patches.{value_in}
use Rattle.amr_patch.proofs.Entries.{in_grown, other_place}
use Rattle.amr_patch.proofs.patches.Patch.set_mass.Goals as goal

pub returns-clause-others : goal.returns-clause-others
unfolding value_in
returns-clause-others c =
    let self = c.args.self.now in
    let held = c.deref_mut-data.result.now in
    λ d h n. other_place held.values.items c.args.m 0 c.place-at.result self.bx c.args.c d self.near c.place-at.ensures.value (in_grown self.bx c.args.c c.requires.inside) h n
    ∙ ap (λ (t : PatchData). slice_index t.values.items (place self.bx d)) c.deref_mut-data.ensures.value
