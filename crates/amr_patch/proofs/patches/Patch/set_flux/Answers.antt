use Rattle.std.proofs.Common.{◌≡◌, ◌∙◌, ℤ, true, false, refl, ap, to_z, of_z, w32, w64, arith}
use Rattle.std.specs.Prelude.{slice_set}
use Rattle.std.specs.Ordering.{int_eq}
use Rattle.std.proofs.lemmas.Int.{ints}
use Rattle.amr_box.specs.Cells.{cell}
use Rattle.amr_box.proofs.CellLists.{int_eq-apart, int_eq-itself}
use Rattle.amr_patch.specs.declared.patches.PatchData.{PatchData}
use Rattle.amr_patch.specs.Places.{column_of, row_of}
use Rattle.amr_patch.proofs.Edges.{other_x, other_y, set_x, set_y}
use Rattle.amr_patch.proofs.patches.Patch.set_flux.Goals as goal

pub returns-then-f-lo-clause-set : goal.returns-then-f-lo-clause-set
returns-then-f-lo-clause-set c =
    let self = c.args.self.now in
    let held : c.deref_mut-data.result.now ≡ self.data.value = c.deref_mut-data.ensures.value in
    let f = c.args.f in
    let v : ℤ = to_z w32 (of_z w32 (to_z w64 (of_z w64 c.args.v))) in
    let x : to_z w32 (of_z w32 f.x) ≡ f.x = omega (arith, ints) in
    let y : to_z w32 (of_z w32 f.y) ≡ f.y = omega (arith, ints) in
    let at : c.edge_row-row.result ≡ row_of self.bx (cell f.x f.y) = c.edge_row-row.ensures.value ∙ (λ i. row_of self.bx (cell (x i) (y i))) in
    let here : f.x ≡ self.bx.lo.x = omega (arith, ints, c.lo-lo.ensures.x, c.if-f-lo.true) in
    let side : int_eq f.x self.bx.lo.x ≡ true = int_eq-itself f.x self.bx.lo.x here in
    let kept : v ≡ c.args.v = omega (arith, ints, c.requires.small) in
    set_x self _ f v true c.in-X.is side refl (λ i. slice_set (held i).x_low.items (at i) v) (ap (λ (t : PatchData). t.x_high.items) held) (omega (arith, at, c.edge_row-row.ensures.within)) ∙ kept

pub returns-then-f-lo-clause-others : goal.returns-then-f-lo-clause-others
returns-then-f-lo-clause-others c =
    let self = c.args.self.now in
    let held : c.deref_mut-data.result.now ≡ self.data.value = c.deref_mut-data.ensures.value in
    let f = c.args.f in
    let v : ℤ = to_z w32 (of_z w32 (to_z w64 (of_z w64 c.args.v))) in
    let x : to_z w32 (of_z w32 f.x) ≡ f.x = omega (arith, ints) in
    let y : to_z w32 (of_z w32 f.y) ≡ f.y = omega (arith, ints) in
    let at : c.edge_row-row.result ≡ row_of self.bx (cell f.x f.y) = c.edge_row-row.ensures.value ∙ (λ i. row_of self.bx (cell (x i) (y i))) in
    let here : f.x ≡ self.bx.lo.x = omega (arith, ints, c.lo-lo.ensures.x, c.if-f-lo.true) in
    let side : int_eq f.x self.bx.lo.x ≡ true = int_eq-itself f.x self.bx.lo.x here in
    λ g h n. other_x self _ f g v true c.in-X.is side refl (λ i. slice_set (held i).x_low.items (at i) v) (ap (λ (t : PatchData). t.x_high.items) held) (ap (λ (t : PatchData). t.y_low.items) held) (ap (λ (t : PatchData). t.y_high.items) held) c.requires.edge h n

pub returns-else-f-lo-clause-set : goal.returns-else-f-lo-clause-set
returns-else-f-lo-clause-set c =
    let self = c.args.self.now in
    let held : c.deref_mut-data.result.now ≡ self.data.value = c.deref_mut-data.ensures.value in
    let f = c.args.f in
    let v : ℤ = to_z w32 (of_z w32 (to_z w64 (of_z w64 c.args.v))) in
    let x : to_z w32 (of_z w32 f.x) ≡ f.x = omega (arith, ints) in
    let y : to_z w32 (of_z w32 f.y) ≡ f.y = omega (arith, ints) in
    let at : c.edge_row-row.result ≡ row_of self.bx (cell f.x f.y) = c.edge_row-row.ensures.value ∙ (λ i. row_of self.bx (cell (x i) (y i))) in
    let side : int_eq f.x self.bx.lo.x ≡ false = int_eq-apart f.x self.bx.lo.x (λ e. let no : ⊥ = omega (arith, ints, c.lo-lo.ensures.x, c.if-f-lo.false, e) in no) in
    let kept : v ≡ c.args.v = omega (arith, ints, c.requires.small) in
    set_x self _ f v false c.in-X.is side refl (ap (λ (t : PatchData). t.x_low.items) held) (λ i. slice_set (held i).x_high.items (at i) v) (omega (arith, at, c.edge_row-row.ensures.within)) ∙ kept

pub returns-else-f-lo-clause-others : goal.returns-else-f-lo-clause-others
returns-else-f-lo-clause-others c =
    let self = c.args.self.now in
    let held : c.deref_mut-data.result.now ≡ self.data.value = c.deref_mut-data.ensures.value in
    let f = c.args.f in
    let v : ℤ = to_z w32 (of_z w32 (to_z w64 (of_z w64 c.args.v))) in
    let x : to_z w32 (of_z w32 f.x) ≡ f.x = omega (arith, ints) in
    let y : to_z w32 (of_z w32 f.y) ≡ f.y = omega (arith, ints) in
    let at : c.edge_row-row.result ≡ row_of self.bx (cell f.x f.y) = c.edge_row-row.ensures.value ∙ (λ i. row_of self.bx (cell (x i) (y i))) in
    let side : int_eq f.x self.bx.lo.x ≡ false = int_eq-apart f.x self.bx.lo.x (λ e. let no : ⊥ = omega (arith, ints, c.lo-lo.ensures.x, c.if-f-lo.false, e) in no) in
    λ g h n. other_x self _ f g v false c.in-X.is side refl (ap (λ (t : PatchData). t.x_low.items) held) (λ i. slice_set (held i).x_high.items (at i) v) (ap (λ (t : PatchData). t.y_low.items) held) (ap (λ (t : PatchData). t.y_high.items) held) c.requires.edge h n

pub returns-then-f-lo-2-clause-set : goal.returns-then-f-lo-2-clause-set
returns-then-f-lo-2-clause-set c =
    let self = c.args.self.now in
    let held : c.deref_mut-data.result.now ≡ self.data.value = c.deref_mut-data.ensures.value in
    let f = c.args.f in
    let v : ℤ = to_z w32 (of_z w32 (to_z w64 (of_z w64 c.args.v))) in
    let x : to_z w32 (of_z w32 f.x) ≡ f.x = omega (arith, ints) in
    let y : to_z w32 (of_z w32 f.y) ≡ f.y = omega (arith, ints) in
    let at : c.edge_column-column.result ≡ column_of self.bx (cell f.x f.y) = c.edge_column-column.ensures.value ∙ (λ i. column_of self.bx (cell (x i) (y i))) in
    let here : f.y ≡ self.bx.lo.y = omega (arith, ints, c.lo-lo.ensures.y, c.if-f-lo-2.true) in
    let side : int_eq f.y self.bx.lo.y ≡ true = int_eq-itself f.y self.bx.lo.y here in
    let kept : v ≡ c.args.v = omega (arith, ints, c.requires.small) in
    set_y self _ f v true c.in-Y.is side refl (λ i. slice_set (held i).y_low.items (at i) v) (ap (λ (t : PatchData). t.y_high.items) held) (omega (arith, at, c.edge_column-column.ensures.within)) ∙ kept

pub returns-then-f-lo-2-clause-others : goal.returns-then-f-lo-2-clause-others
returns-then-f-lo-2-clause-others c =
    let self = c.args.self.now in
    let held : c.deref_mut-data.result.now ≡ self.data.value = c.deref_mut-data.ensures.value in
    let f = c.args.f in
    let v : ℤ = to_z w32 (of_z w32 (to_z w64 (of_z w64 c.args.v))) in
    let x : to_z w32 (of_z w32 f.x) ≡ f.x = omega (arith, ints) in
    let y : to_z w32 (of_z w32 f.y) ≡ f.y = omega (arith, ints) in
    let at : c.edge_column-column.result ≡ column_of self.bx (cell f.x f.y) = c.edge_column-column.ensures.value ∙ (λ i. column_of self.bx (cell (x i) (y i))) in
    let here : f.y ≡ self.bx.lo.y = omega (arith, ints, c.lo-lo.ensures.y, c.if-f-lo-2.true) in
    let side : int_eq f.y self.bx.lo.y ≡ true = int_eq-itself f.y self.bx.lo.y here in
    λ g h n. other_y self _ f g v true c.in-Y.is side refl (λ i. slice_set (held i).y_low.items (at i) v) (ap (λ (t : PatchData). t.y_high.items) held) (ap (λ (t : PatchData). t.x_low.items) held) (ap (λ (t : PatchData). t.x_high.items) held) c.requires.edge h n

pub returns-else-f-lo-2-clause-set : goal.returns-else-f-lo-2-clause-set
returns-else-f-lo-2-clause-set c =
    let self = c.args.self.now in
    let held : c.deref_mut-data.result.now ≡ self.data.value = c.deref_mut-data.ensures.value in
    let f = c.args.f in
    let v : ℤ = to_z w32 (of_z w32 (to_z w64 (of_z w64 c.args.v))) in
    let x : to_z w32 (of_z w32 f.x) ≡ f.x = omega (arith, ints) in
    let y : to_z w32 (of_z w32 f.y) ≡ f.y = omega (arith, ints) in
    let at : c.edge_column-column.result ≡ column_of self.bx (cell f.x f.y) = c.edge_column-column.ensures.value ∙ (λ i. column_of self.bx (cell (x i) (y i))) in
    let side : int_eq f.y self.bx.lo.y ≡ false = int_eq-apart f.y self.bx.lo.y (λ e. let no : ⊥ = omega (arith, ints, c.lo-lo.ensures.y, c.if-f-lo-2.false, e) in no) in
    let kept : v ≡ c.args.v = omega (arith, ints, c.requires.small) in
    set_y self _ f v false c.in-Y.is side refl (ap (λ (t : PatchData). t.y_low.items) held) (λ i. slice_set (held i).y_high.items (at i) v) (omega (arith, at, c.edge_column-column.ensures.within)) ∙ kept

pub returns-else-f-lo-2-clause-others : goal.returns-else-f-lo-2-clause-others
returns-else-f-lo-2-clause-others c =
    let self = c.args.self.now in
    let held : c.deref_mut-data.result.now ≡ self.data.value = c.deref_mut-data.ensures.value in
    let f = c.args.f in
    let v : ℤ = to_z w32 (of_z w32 (to_z w64 (of_z w64 c.args.v))) in
    let x : to_z w32 (of_z w32 f.x) ≡ f.x = omega (arith, ints) in
    let y : to_z w32 (of_z w32 f.y) ≡ f.y = omega (arith, ints) in
    let at : c.edge_column-column.result ≡ column_of self.bx (cell f.x f.y) = c.edge_column-column.ensures.value ∙ (λ i. column_of self.bx (cell (x i) (y i))) in
    let side : int_eq f.y self.bx.lo.y ≡ false = int_eq-apart f.y self.bx.lo.y (λ e. let no : ⊥ = omega (arith, ints, c.lo-lo.ensures.y, c.if-f-lo-2.false, e) in no) in
    λ g h n. other_y self _ f g v false c.in-Y.is side refl (ap (λ (t : PatchData). t.y_low.items) held) (λ i. slice_set (held i).y_high.items (at i) v) (ap (λ (t : PatchData). t.x_low.items) held) (ap (λ (t : PatchData). t.x_high.items) held) c.requires.edge h n
