use Rattle.std.proofs.Common.{◌∙◌, ap, false}
use Rattle.std.specs.Prelude.{slice_index, slice_index_or}
use Rattle.amr_patch.specs.declared.patches.PatchData.{PatchData}
use Rattle.amr_patch.specs.Places.{place}
use Rattle.amr_patch.specs.Patches.{mark_in, value_in}
use Rattle.amr_patch.proofs.Entries.{in_the_frame, other_place}
use Rattle.amr_patch.proofs.patches.Patch.set_ghost.Goals as goal

pub returns-clause-others : goal.returns-clause-others
unfolding value_in
returns-clause-others c =
    let self = c.args.self.now in
    let held = c.deref_mut-data.result.now in
    λ d h n. other_place held.values.items c.args.v 0 c.place-at.result self.bx c.args.c d self.near c.place-at.ensures.value (in_the_frame self.bx c.args.c c.requires.ghost_cell) h n
    ∙ ap (λ (t : PatchData). slice_index t.values.items (place self.bx d)) c.deref_mut-data.ensures.value

pub returns-clause-marks : goal.returns-clause-marks
unfolding mark_in
returns-clause-marks c =
    let self = c.args.self.now in
    let held = c.deref_mut-data.result.now in
    λ d h n. other_place held.marks.items c.args.of_level false c.place-at.result self.bx c.args.c d self.near c.place-at.ensures.value (in_the_frame self.bx c.args.c c.requires.ghost_cell) h n
    ∙ ap (λ (t : PatchData). slice_index_or t.marks.items (place self.bx d) false) c.deref_mut-data.ensures.value
