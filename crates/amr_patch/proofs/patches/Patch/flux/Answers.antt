use Rattle.std.proofs.Common.{◌≡◌, ◌∙◌, ℕ, ◌<◌, length, true, false, pos, sym, ap, to_z, of_z, w32, w64, arith}
use Rattle.std.specs.Prelude.{slice_index_or}
use Rattle.std.specs.Ordering.{int_eq}
use Rattle.std.proofs.lemmas.Int.{ints}
use Rattle.amr_box.specs.Cells.{cell}
use Rattle.amr_box.proofs.CellLists.{int_eq-apart, int_eq-itself}
use Rattle.amr_patch.specs.declared.patches.PatchData.{PatchData}
use Rattle.amr_patch.specs.Places.{column_of, row_of}
use Rattle.amr_patch.proofs.Edges.{flux_x, flux_y}
use Rattle.amr_patch.proofs.Lookups.{same_default}
use Rattle.amr_patch.proofs.patches.Patch.flux.Goals as goal

pub returns-then-f-lo : goal.returns-then-f-lo
returns-then-f-lo c =
    let self = c.args.self.now in
    let held = c.deref-data.result.now in
    let f = c.args.f in
    let x : to_z w32 (of_z w32 f.x) ≡ f.x = omega (arith, ints) in
    let y : to_z w32 (of_z w32 f.y) ≡ f.y = omega (arith, ints) in
    let at : c.edge_row-row.result ≡ row_of self.bx (cell f.x f.y) = c.edge_row-row.ensures.value ∙ (λ i. row_of self.bx (cell (x i) (y i))) in
    let here : f.x ≡ self.bx.lo.x = omega (arith, ints, c.lo-lo.ensures.x, c.if-f-lo.true) in
    let side : int_eq f.x self.bx.lo.x ≡ true = int_eq-itself f.x self.bx.lo.x here in
    let there : c.edge_row-row.result < length held.x_low.items = omega (arith, c.edge_row-row.ensures.within, self.x_low_count, ap (λ (t : PatchData). length t.x_low.items) c.deref-data.ensures) in
    let entry : c.index.result.now ≡ slice_index_or self.data.value.x_low.items c.edge_row-row.result (pos 0) = c.index.ensures ∙ same_default held.x_low.items c.edge_row-row.result c.index.result.now (pos 0) there ∙ ap (λ (t : PatchData). slice_index_or t.x_low.items c.edge_row-row.result (pos 0)) c.deref-data.ensures in
    let read : to_z w64 (of_z w64 c.from.result) ≡ c.index.result.now = omega (arith, ints, c.from.ensures) in
    read ∙ entry ∙ ap (λ (k : ℕ). slice_index_or self.data.value.x_low.items k (pos 0)) at ∙ sym (flux_x self f true c.in-X.is side)

pub returns-else-f-lo : goal.returns-else-f-lo
returns-else-f-lo c =
    let self = c.args.self.now in
    let held = c.deref-data.result.now in
    let f = c.args.f in
    let x : to_z w32 (of_z w32 f.x) ≡ f.x = omega (arith, ints) in
    let y : to_z w32 (of_z w32 f.y) ≡ f.y = omega (arith, ints) in
    let at : c.edge_row-row.result ≡ row_of self.bx (cell f.x f.y) = c.edge_row-row.ensures.value ∙ (λ i. row_of self.bx (cell (x i) (y i))) in
    let side : int_eq f.x self.bx.lo.x ≡ false = int_eq-apart f.x self.bx.lo.x (λ e. let no : ⊥ = omega (arith, ints, c.lo-lo.ensures.x, c.if-f-lo.false, e) in no) in
    let there : c.edge_row-row.result < length held.x_high.items = omega (arith, c.edge_row-row.ensures.within, self.x_high_count, ap (λ (t : PatchData). length t.x_high.items) c.deref-data.ensures) in
    let entry : c.index-else-f-lo.result.now ≡ slice_index_or self.data.value.x_high.items c.edge_row-row.result (pos 0) = c.index-else-f-lo.ensures ∙ same_default held.x_high.items c.edge_row-row.result c.index-else-f-lo.result.now (pos 0) there ∙ ap (λ (t : PatchData). slice_index_or t.x_high.items c.edge_row-row.result (pos 0)) c.deref-data.ensures in
    let read : to_z w64 (of_z w64 c.from-else-f-lo.result) ≡ c.index-else-f-lo.result.now = omega (arith, ints, c.from-else-f-lo.ensures) in
    read ∙ entry ∙ ap (λ (k : ℕ). slice_index_or self.data.value.x_high.items k (pos 0)) at ∙ sym (flux_x self f false c.in-X.is side)

pub returns-then-f-lo-2 : goal.returns-then-f-lo-2
returns-then-f-lo-2 c =
    let self = c.args.self.now in
    let held = c.deref-data.result.now in
    let f = c.args.f in
    let x : to_z w32 (of_z w32 f.x) ≡ f.x = omega (arith, ints) in
    let y : to_z w32 (of_z w32 f.y) ≡ f.y = omega (arith, ints) in
    let at : c.edge_column-column.result ≡ column_of self.bx (cell f.x f.y) = c.edge_column-column.ensures.value ∙ (λ i. column_of self.bx (cell (x i) (y i))) in
    let here : f.y ≡ self.bx.lo.y = omega (arith, ints, c.lo-lo.ensures.y, c.if-f-lo-2.true) in
    let side : int_eq f.y self.bx.lo.y ≡ true = int_eq-itself f.y self.bx.lo.y here in
    let there : c.edge_column-column.result < length held.y_low.items = omega (arith, c.edge_column-column.ensures.within, self.y_low_count, ap (λ (t : PatchData). length t.y_low.items) c.deref-data.ensures) in
    let entry : c.index-then-f-lo-2.result.now ≡ slice_index_or self.data.value.y_low.items c.edge_column-column.result (pos 0) = c.index-then-f-lo-2.ensures ∙ same_default held.y_low.items c.edge_column-column.result c.index-then-f-lo-2.result.now (pos 0) there ∙ ap (λ (t : PatchData). slice_index_or t.y_low.items c.edge_column-column.result (pos 0)) c.deref-data.ensures in
    let read : to_z w64 (of_z w64 c.from-then-f-lo-2.result) ≡ c.index-then-f-lo-2.result.now = omega (arith, ints, c.from-then-f-lo-2.ensures) in
    read ∙ entry ∙ ap (λ (k : ℕ). slice_index_or self.data.value.y_low.items k (pos 0)) at ∙ sym (flux_y self f true c.in-Y.is side)

pub returns-else-f-lo-2 : goal.returns-else-f-lo-2
returns-else-f-lo-2 c =
    let self = c.args.self.now in
    let held = c.deref-data.result.now in
    let f = c.args.f in
    let x : to_z w32 (of_z w32 f.x) ≡ f.x = omega (arith, ints) in
    let y : to_z w32 (of_z w32 f.y) ≡ f.y = omega (arith, ints) in
    let at : c.edge_column-column.result ≡ column_of self.bx (cell f.x f.y) = c.edge_column-column.ensures.value ∙ (λ i. column_of self.bx (cell (x i) (y i))) in
    let side : int_eq f.y self.bx.lo.y ≡ false = int_eq-apart f.y self.bx.lo.y (λ e. let no : ⊥ = omega (arith, ints, c.lo-lo.ensures.y, c.if-f-lo-2.false, e) in no) in
    let there : c.edge_column-column.result < length held.y_high.items = omega (arith, c.edge_column-column.ensures.within, self.y_high_count, ap (λ (t : PatchData). length t.y_high.items) c.deref-data.ensures) in
    let entry : c.index-else-f-lo-2.result.now ≡ slice_index_or self.data.value.y_high.items c.edge_column-column.result (pos 0) = c.index-else-f-lo-2.ensures ∙ same_default held.y_high.items c.edge_column-column.result c.index-else-f-lo-2.result.now (pos 0) there ∙ ap (λ (t : PatchData). slice_index_or t.y_high.items c.edge_column-column.result (pos 0)) c.deref-data.ensures in
    let read : to_z w64 (of_z w64 c.from-else-f-lo-2.result) ≡ c.index-else-f-lo-2.result.now = omega (arith, ints, c.from-else-f-lo-2.ensures) in
    read ∙ entry ∙ ap (λ (k : ℕ). slice_index_or self.data.value.y_high.items k (pos 0)) at ∙ sym (flux_y self f false c.in-Y.is side)
