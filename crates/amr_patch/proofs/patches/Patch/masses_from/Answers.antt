use Rattle.std.proofs.Common.{◌∙◌, ℕ, ◌+◌, ◌-◌, ◌<◌, List, take, drop, length-take, ap, arith}
use Rattle.std.specs.Prelude.{slice_index}
use Rattle.std.proofs.lemmas.Int.{ints}
use Rattle.amr_patch.specs.declared.patches.PatchData.{PatchData}
use Rattle.amr_patch.specs.Patches.{value_in}
use Rattle.amr_patch.proofs.Entries.{in_grown, row_entry}
use Rattle.amr_patch.proofs.Rows.{inside}
use Rattle.amr_patch.proofs.patches.Patch.masses_from.Goals as goal

pub row_place-from-requires-clause-inside : goal.row_place-from-requires-clause-inside
row_place-from-requires-clause-inside c = in_grown c.args.self.now.bx c.args.c c.requires

pub returns-clause-masses : goal.returns-clause-masses
unfolding value_in
returns-clause-masses c =
    λ k h.
    let self = c.args.self.now in
    let from = c.row_place-from.result in
    let m : ℕ = from + c.columns_from-count.result - from in
    let i = inside self.bx c.args.c c.requires in
    let lt : k < m = omega (arith, simp length-take at h) in
    ap (λ (vs : List ℕ). slice_index (take m (drop from vs)) k) c.deref.ensures.value
    ∙ ap (λ (t : PatchData). slice_index (take m (drop from t.values.items)) k) c.deref-data.ensures
    ∙ row_entry self.data.value.values.items self.bx c.args.c.x c.args.c.y from m k lt (omega (arith, ints, i.west)) c.row_place-from.ensures.value
