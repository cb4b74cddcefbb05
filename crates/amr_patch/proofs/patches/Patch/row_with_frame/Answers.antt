use Rattle.std.proofs.Common.{◌≡◌, ◌∙◌, ℕ, ◌+◌, ◌-◌, ◌<◌, List, take, drop, to_z, of_z, w32, ap, arith}
use Rattle.std.specs.Prelude.{slice_index, pos, ◌-ℤ◌}
use Rattle.std.proofs.lemmas.Int.{ints}
use Rattle.amr_box.specs.Cells.{cell}
use Rattle.amr_patch.specs.declared.patches.PatchData.{PatchData}
use Rattle.amr_patch.specs.Places.{place}
use Rattle.amr_patch.specs.Patches.{value_in}
use Rattle.amr_patch.proofs.Entries.{row_entry}
use Rattle.amr_patch.proofs.patches.Patch.row_with_frame.Goals as goal

pub returns-clause-values : goal.returns-clause-values
unfolding value_in
returns-clause-values c =
    λ k h.
    let self = c.args.self.now in
    let from = c.row_place-from.result in
    let m : ℕ = from + (c.width-count.result + 2) - from in
    let x : to_z w32 (of_z w32 (to_z w32 (of_z w32 c.lo-x.result.x) -ℤ pos 1)) ≡ self.bx.lo.x -ℤ pos 1 = omega (arith, ints, c.lo-x.ensures.x, self.near.west, self.near.east) in
    let y : to_z w32 (of_z w32 c.args.y) ≡ c.args.y = omega (arith, ints) in
    let e : from ≡ place self.bx (cell (self.bx.lo.x -ℤ pos 1) c.args.y) = c.row_place-from.ensures.value ∙ (λ i. place self.bx (cell (x i) (y i))) in
    let lt : k < m = omega (arith, h, c.width-count.ensures.value) in
    ap (λ (vs : List ℕ). slice_index (take m (drop from vs)) k) c.deref.ensures.value
    ∙ ap (λ (t : PatchData). slice_index (take m (drop from t.values.items)) k) c.deref-data.ensures
    ∙ row_entry self.data.value.values.items self.bx (self.bx.lo.x -ℤ pos 1) c.args.y from m k lt (omega (arith, ints)) e
