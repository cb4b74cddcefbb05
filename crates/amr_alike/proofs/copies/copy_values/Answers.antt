use Rattle.std.proofs.Common.{◌≡◌, ◌∙◌, ap}
use Rattle.std.specs.Prelude.{slice_index}
use Rattle.amr_patch.specs.declared.patches.PatchData.{PatchData}
use Rattle.amr_patch.specs.Places.{place}
use Rattle.amr_patch.specs.Patches.{value_in}
use Rattle.amr_alike.proofs.copies.copy_values.Goals as goal

pub returns : goal.returns
unfolding value_in
returns c =
    let items : c.copy_from_slice.new.self.items ≡ c.args.from.now.data.value.values.items = c.copy_from_slice.ensures.items ∙ c.deref.ensures.value ∙ ap (λ (t : PatchData). t.values.items) c.deref-source.ensures in
    record { of_box = c.requires; masses = λ d i. slice_index (items i) (place (c.requires i) d) }
