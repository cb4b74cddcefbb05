use Rattle.std.proofs.Common.{◌≡◌, ◌∙◌, ℕ, ◌+◌, List, length, sym, ap, arith}
use Rattle.std.specs.Prelude.{pos, ◌+ℤ◌, slice_index}
use Rattle.std.proofs.lemmas.Int.{ints}
use Rattle.std.proofs.lemmas.List.{with_items_is}
use Rattle.amr_box.specs.Cells.{cell}
use Rattle.amr_patch.specs.declared.patches.PatchData.{PatchData}
use Rattle.amr_patch.specs.Places.{place}
use Rattle.amr_patch.specs.Patches.{value_in}
use Rattle.amr_patch.proofs.Rows.{inside}
use Rattle.amr_patch.proofs.Entries.{along_row, beside_span, in_grown}
use Rattle.amr_patch.proofs.patches.Patch.set_masses.Goals as goal

pub row_place-from-requires-clause-inside : goal.row_place-from-requires-clause-inside
row_place-from-requires-clause-inside c = in_grown c.args.self.now.bx c.args.c c.requires.inside

pub returns-clause-set : goal.returns-clause-set
unfolding value_in
returns-clause-set c =
    λ k lt.
    let self = c.args.self.now in
    let q = c.args.c in
    let i = inside self.bx q c.requires.inside in
    let whole = with_items_is c.deref_mut-data.result.now.values c.set_span.new.values (omega (arith, c.set_span.auto.values, c.deref_mut.ensures.len)) in
    let at : place self.bx (cell (q.x +ℤ pos k) q.y) ≡ c.row_place-from.result + k = sym (ap (λ (m : ℕ). m + k) c.row_place-from.ensures.value ∙ along_row self.bx q.x q.y k (omega (arith, ints, i.west))) in
    ap (λ (vs : List ℕ). slice_index vs (place self.bx (cell (q.x +ℤ pos k) q.y))) whole ∙ ap (λ (m : ℕ). slice_index c.set_span.new.values m) at ∙ c.set_span.ensures.set k lt

pub returns-clause-others : goal.returns-clause-others
unfolding value_in
returns-clause-others c =
    λ d g other.
    let self = c.args.self.now in
    let whole = with_items_is c.deref_mut-data.result.now.values c.set_span.new.values (omega (arith, c.set_span.auto.values, c.deref_mut.ensures.len)) in
    ap (λ (vs : List ℕ). slice_index vs (place self.bx d)) whole
    ∙ c.set_span.ensures.others (place self.bx d) (beside_span self.bx c.args.c d c.row_place-from.result (length c.args.masses.now) self.near c.requires.inside c.requires.room c.row_place-from.ensures.value g other)
    ∙ ap (λ (vs : List ℕ). slice_index vs (place self.bx d)) c.deref_mut.ensures.value
    ∙ ap (λ (t : PatchData). slice_index t.values.items (place self.bx d)) c.deref_mut-data.ensures.value
