use Rattle.std.proofs.Common.{◌≡◌, ℕ, ◌<◌, ◌≤◌, ◌∙◌, false, ◌||◌, pos, [], length, refl, ap, arith}
use Rattle.std.specs.Prelude.{slice_index, slice_index_or}
use Rattle.std.proofs.lemmas.Bool.{or_right}
use Rattle.std.specs.Vec.{with_items}
use Rattle.std.proofs.Math.Nat.{le_refl}
use Rattle.std.proofs.lemmas.List.{with_items_is}
use Rattle.amr_patch.specs.declared.patches.PatchData.{PatchData}
use Rattle.amr_patch.specs.Places.{place}
use Rattle.amr_patch.specs.Patches.{mark_in, value_in}
use Rattle.amr_flux.specs.Rooms.{widest}
use Rattle.amr_flux.specs.Tables.{x_flux, y_flux}
use Rattle.amr_flux.proofs.Owned.{x_small, y_small}
use Rattle.amr_flux.proofs.Swept.{AreSwept, others_stay, swept, swept_lists}
use Rattle.amr_flux.proofs.Updates.{moved}
use Rattle.amr_flux.proofs.fluxes.sweep.Goals as goal
use Rattle.amr_flux.proofs.fluxes.sweep.Goals.{After-sweep_row-2}

from_zero : (n : ℕ) → 0 ≤ n
from_zero n = omega arith

pub shape_of-shape-requires-clause-level : goal.shape_of-shape-requires-clause-level
shape_of-shape-requires-clause-level c = c.requires.level

pub shape_of-shape-requires-clause-near : goal.shape_of-shape-requires-clause-near
shape_of-shape-requires-clause-near c = c.args.patch.now.near

pub shape_of-shape-requires-clause-inside : goal.shape_of-shape-requires-clause-inside
shape_of-shape-requires-clause-inside c = c.requires.inside

pub sweep_column-requires-clause-level : goal.sweep_column-requires-clause-level
sweep_column-requires-clause-level c = rw c.shape_of-shape.ensures.level c.requires.level

pub sweep_column-requires-2-clause-level : goal.sweep_column-requires-2-clause-level
sweep_column-requires-2-clause-level c = rw c.shape_of-shape.ensures.level c.requires.level

pub set_wanted_columns-requires-clause-level : goal.set_wanted_columns-requires-clause-level
set_wanted_columns-requires-clause-level c = rw c.shape_of-shape.ensures.level c.requires.level

pub sweep_row-requires-clause-level : goal.sweep_row-requires-clause-level
sweep_row-requires-clause-level c = rw c.shape_of-shape.ensures.level c.requires.level

pub sweep_row-requires-2-clause-level : goal.sweep_row-requires-2-clause-level
sweep_row-requires-2-clause-level c = rw c.shape_of-shape.ensures.level c.requires.level

pub sweep_column-requires-clause-value_count : goal.sweep_column-requires-clause-value_count
sweep_column-requires-clause-value_count c = rw (c.shape_of-shape.ensures.columns, c.shape_of-shape.ensures.rows, c.deref.ensures.value, c.deref_mut-data.ensures.value) c.args.patch.now.value_count

pub sweep_column-requires-clause-flux_count : goal.sweep_column-requires-clause-flux_count
sweep_column-requires-clause-flux_count c = rw (c.shape_of-shape.ensures.rows, c.deref_mut.ensures.value, c.deref_mut-data.ensures.value) c.args.patch.now.x_low_count

pub sweep_column-requires-2-clause-value_count : goal.sweep_column-requires-2-clause-value_count
sweep_column-requires-2-clause-value_count c = rw (c.shape_of-shape.ensures.columns, c.shape_of-shape.ensures.rows, c.deref-2.ensures.value, c.deref_mut-data.ensures.value) c.args.patch.now.value_count

pub sweep_column-requires-2-clause-flux_count : goal.sweep_column-requires-2-clause-flux_count
sweep_column-requires-2-clause-flux_count c = rw (c.shape_of-shape.ensures.rows, c.deref_mut-2.ensures.value, c.deref_mut-data.ensures.value) c.args.patch.now.x_high_count

pub sweep_row-requires-clause-value_count : goal.sweep_row-requires-clause-value_count
sweep_row-requires-clause-value_count c = rw (c.shape_of-shape.ensures.columns, c.shape_of-shape.ensures.rows, c.deref-3.ensures.value, c.deref_mut-data.ensures.value) c.args.patch.now.value_count

pub sweep_row-requires-clause-flux_count : goal.sweep_row-requires-clause-flux_count
sweep_row-requires-clause-flux_count c = rw (c.shape_of-shape.ensures.columns, c.deref_mut-3.ensures.value, c.deref_mut-data.ensures.value) c.args.patch.now.y_low_count

pub sweep_row-requires-2-clause-value_count : goal.sweep_row-requires-2-clause-value_count
sweep_row-requires-2-clause-value_count c = rw (c.shape_of-shape.ensures.columns, c.shape_of-shape.ensures.rows, c.deref-4.ensures.value, c.deref_mut-data.ensures.value) c.args.patch.now.value_count

pub sweep_row-requires-2-clause-flux_count : goal.sweep_row-requires-2-clause-flux_count
sweep_row-requires-2-clause-flux_count c = rw (c.shape_of-shape.ensures.columns, c.deref_mut-4.ensures.value, c.deref_mut-data.ensures.value) c.args.patch.now.y_high_count

pub sweep_column-requires-clause-column : goal.sweep_column-requires-clause-column
sweep_column-requires-clause-column c = from_zero c.shape_of-shape.result.w

pub sweep_column-requires-2-clause-column : goal.sweep_column-requires-2-clause-column
sweep_column-requires-2-clause-column c = le_refl c.shape_of-shape.result.w

pub sweep_row-requires-clause-row : goal.sweep_row-requires-clause-row
sweep_row-requires-clause-row c = from_zero c.shape_of-shape.result.h

pub sweep_row-requires-2-clause-row : goal.sweep_row-requires-2-clause-row
sweep_row-requires-2-clause-row c = le_refl c.shape_of-shape.result.h

pub sweep_column-requires-clause-inside : goal.sweep_column-requires-clause-inside
sweep_column-requires-clause-inside c = rw (c.shape_of-shape.ensures.rows, c.shape_of-shape.ensures.level) c.shape_of-shape.ensures.stands.rows_fit

pub sweep_column-requires-2-clause-inside : goal.sweep_column-requires-2-clause-inside
sweep_column-requires-2-clause-inside c = rw (c.shape_of-shape.ensures.rows, c.shape_of-shape.ensures.level) c.shape_of-shape.ensures.stands.rows_fit

pub set_wanted_columns-requires-clause-inside : goal.set_wanted_columns-requires-clause-inside
set_wanted_columns-requires-clause-inside c = rw (c.shape_of-shape.ensures.columns, c.shape_of-shape.ensures.level) c.shape_of-shape.ensures.stands.columns_fit

pub sweep_row-requires-clause-inside : goal.sweep_row-requires-clause-inside
sweep_row-requires-clause-inside c = rw (c.shape_of-shape.ensures.columns, c.shape_of-shape.ensures.level) c.shape_of-shape.ensures.stands.columns_fit

pub sweep_row-requires-2-clause-inside : goal.sweep_row-requires-2-clause-inside
sweep_row-requires-2-clause-inside c = rw (c.shape_of-shape.ensures.columns, c.shape_of-shape.ensures.level) c.shape_of-shape.ensures.stands.columns_fit

pub sweep_column-requires-clause-small : goal.sweep_column-requires-clause-small
sweep_column-requires-clause-small c = rw (c.shape_of-shape.ensures.columns, c.shape_of-shape.ensures.rows, c.deref.ensures.value, c.deref_mut-data.ensures.value) (x_small c.args.patch.now c.requires.small)

pub sweep_column-requires-2-clause-small : goal.sweep_column-requires-2-clause-small
sweep_column-requires-2-clause-small c = rw (c.shape_of-shape.ensures.columns, c.shape_of-shape.ensures.rows, c.deref-2.ensures.value, c.deref_mut-data.ensures.value) (x_small c.args.patch.now c.requires.small)

pub sweep_row-requires-clause-small : goal.sweep_row-requires-clause-small
sweep_row-requires-clause-small c = rw (c.shape_of-shape.ensures.columns, c.shape_of-shape.ensures.rows, c.deref-3.ensures.value, c.deref_mut-data.ensures.value) (y_small c.args.patch.now c.requires.small)

pub sweep_row-requires-2-clause-small : goal.sweep_row-requires-2-clause-small
sweep_row-requires-2-clause-small c = rw (c.shape_of-shape.ensures.columns, c.shape_of-shape.ensures.rows, c.deref-4.ensures.value, c.deref_mut-data.ensures.value) (y_small c.args.patch.now c.requires.small)

pub sweep_row-requires-clause-columns : goal.sweep_row-requires-clause-columns
sweep_row-requires-clause-columns c = λ has. c.set_wanted_columns.ensures.columns (ap (λ b. b || c.args.sides.y_high) has)

pub sweep_row-requires-2-clause-columns : goal.sweep_row-requires-2-clause-columns
sweep_row-requires-2-clause-columns c = λ has. c.set_wanted_columns.ensures.columns (or_right c.args.sides.y_low c.args.sides.y_high has)

-- the lists of the edges, where the sweep ends
lists : (c : After-sweep_row-2) → AreSwept c.args.p.now c.args.l c.args.patch.now c.shape_of-shape.result.column c.shape_of-shape.result.row c.args.sides c.sweep_column.new.fluxes c.sweep_column-2.new.fluxes c.sweep_row.new.fluxes c.sweep_row-2.new.fluxes
lists c =
    let p = c.args.p.now in
    let q = c.args.patch.now in
    let held : c.deref_mut-data.result.now ≡ q.data.value = c.deref_mut-data.ensures.value in
    let row = c.shape_of-shape.result.row in
    let column = c.shape_of-shape.result.column in
    let e = c.shape_of-shape.ensures in
    let x_low = c.sweep_column.new.fluxes in
    let x_high = c.sweep_column-2.new.fluxes in
    let y_low = c.sweep_row.new.fluxes in
    let y_high = c.sweep_row-2.new.fluxes in
    record {
      x_low = λ has. moved (λ l w h v m. (j : ℕ) → j < h → slice_index_or x_low j (pos 0) ≡ x_flux p l row w v 0 j) {m = []} {m' = []} e.level e.columns e.rows (c.deref.ensures.value ∙ ap (λ (t : PatchData). t.values.items) held) refl (c.sweep_column.ensures.made has);
      x_high = λ has. moved (λ l w h v m. (j : ℕ) → j < h → slice_index_or x_high j (pos 0) ≡ x_flux p l row w v w j) {m = []} {m' = []} e.level e.columns e.rows (c.deref-2.ensures.value ∙ ap (λ (t : PatchData). t.values.items) held) refl (c.sweep_column-2.ensures.made has);
      y_low = λ has. moved (λ l w h v m. (i : ℕ) → i < w → slice_index_or y_low i (pos 0) ≡ y_flux p l column w v i 0) {m = []} {m' = []} e.level e.columns e.rows (c.deref-3.ensures.value ∙ ap (λ (t : PatchData). t.values.items) held) refl (c.sweep_row.ensures.made has);
      y_high = λ has. moved (λ l w h v m. (i : ℕ) → i < w → slice_index_or y_high i (pos 0) ≡ y_flux p l column w v i h) {m = []} {m' = []} e.level e.columns e.rows (c.deref-4.ensures.value ∙ ap (λ (t : PatchData). t.values.items) held) refl (c.sweep_row-2.ensures.made has);
      x_low_stays = λ unwanted. c.sweep_column.ensures.kept unwanted ∙ c.deref_mut.ensures.value ∙ ap (λ (t : PatchData). t.x_low.items) held;
      x_high_stays = λ unwanted. c.sweep_column-2.ensures.kept unwanted ∙ c.deref_mut-2.ensures.value ∙ ap (λ (t : PatchData). t.x_high.items) held;
      y_low_stays = λ unwanted. c.sweep_row.ensures.kept unwanted ∙ c.deref_mut-3.ensures.value ∙ ap (λ (t : PatchData). t.y_low.items) held;
      y_high_stays = λ unwanted. c.sweep_row-2.ensures.kept unwanted ∙ c.deref_mut-4.ensures.value ∙ ap (λ (t : PatchData). t.y_high.items) held;
    }

-- where they stand in the patch then
x_low_is : (c : After-sweep_row-2) → (with_items c.deref_mut-data.result.now.x_low c.sweep_column.new.fluxes).items ≡ c.sweep_column.new.fluxes
x_low_is c = with_items_is c.deref_mut-data.result.now.x_low c.sweep_column.new.fluxes (c.sweep_column.auto.fluxes ∙ c.deref_mut.ensures.len)

x_high_is : (c : After-sweep_row-2) → (with_items c.deref_mut-data.result.now.x_high c.sweep_column-2.new.fluxes).items ≡ c.sweep_column-2.new.fluxes
x_high_is c = with_items_is c.deref_mut-data.result.now.x_high c.sweep_column-2.new.fluxes (c.sweep_column-2.auto.fluxes ∙ c.deref_mut-2.ensures.len)

y_low_is : (c : After-sweep_row-2) → (with_items c.deref_mut-data.result.now.y_low c.sweep_row.new.fluxes).items ≡ c.sweep_row.new.fluxes
y_low_is c = with_items_is c.deref_mut-data.result.now.y_low c.sweep_row.new.fluxes (c.sweep_row.auto.fluxes ∙ c.deref_mut-3.ensures.len)

y_high_is : (c : After-sweep_row-2) → (with_items c.deref_mut-data.result.now.y_high c.sweep_row-2.new.fluxes).items ≡ c.sweep_row-2.new.fluxes
y_high_is c = with_items_is c.deref_mut-data.result.now.y_high c.sweep_row-2.new.fluxes (c.sweep_row-2.auto.fluxes ∙ c.deref_mut-4.ensures.len)

pub returns-clause-fluxes : goal.returns-clause-fluxes
returns-clause-fluxes c =
    let d = (goal.at.returns-clause-fluxes c).After-sweep_row-2 in
    let s = c.shape_of-shape in
    swept c.args.p.now c.args.l c.args.patch.now _ s.result.column s.result.row s.ensures.stands refl c.args.sides (swept_lists c.args.p.now c.args.l c.args.patch.now s.result.column s.result.row c.args.sides (x_low_is d) (x_high_is d) (y_low_is d) (y_high_is d) (lists d))

pub returns-clause-others : goal.returns-clause-others
returns-clause-others c =
    let d = (goal.at.returns-clause-others c).After-sweep_row-2 in
    let s = c.shape_of-shape in
    others_stay c.args.p.now c.args.l c.args.patch.now _ s.result.column s.result.row s.ensures.stands refl c.args.sides (swept_lists c.args.p.now c.args.l c.args.patch.now s.result.column s.result.row c.args.sides (x_low_is d) (x_high_is d) (y_low_is d) (y_high_is d) (lists d))

-- the lists keep their lengths
pub invariant_of-patch : goal.invariant_of-patch
invariant_of-patch c =
    let d = (goal.at.invariant_of-patch c).After-sweep_row-2 in
    let q = c.args.patch.now in
    let held : c.deref_mut-data.result.now ≡ q.data.value = c.deref_mut-data.ensures.value in
    record {
      near = q.near;
      value_count = ap (λ (t : PatchData). length t.values.items) held ∙ q.value_count;
      mark_count = ap (λ (t : PatchData). length t.marks.items) held ∙ q.mark_count;
      x_low_count = ap length (x_low_is d) ∙ c.sweep_column.auto.fluxes ∙ ap length c.deref_mut.ensures.value ∙ ap (λ (t : PatchData). length t.x_low.items) held ∙ q.x_low_count;
      x_high_count = ap length (x_high_is d) ∙ c.sweep_column-2.auto.fluxes ∙ ap length c.deref_mut-2.ensures.value ∙ ap (λ (t : PatchData). length t.x_high.items) held ∙ q.x_high_count;
      y_low_count = ap length (y_low_is d) ∙ c.sweep_row.auto.fluxes ∙ ap length c.deref_mut-3.ensures.value ∙ ap (λ (t : PatchData). length t.y_low.items) held ∙ q.y_low_count;
      y_high_count = ap length (y_high_is d) ∙ c.sweep_row-2.auto.fluxes ∙ ap length c.deref_mut-4.ensures.value ∙ ap (λ (t : PatchData). length t.y_high.items) held ∙ q.y_high_count;
    }

pub invariant_of-room : goal.invariant_of-room
invariant_of-room c =
    let r = c.args.room.now in
    record { x_count = r.x_count; high_count = r.high_count; across_count = r.across_count; column_count = c.set_wanted_columns.ensures.room ∙ r.column_count }

pub returns-clause-of_box : goal.returns-clause-of_box
returns-clause-of_box c = refl

pub returns-clause-values : goal.returns-clause-values
unfolding value_in
returns-clause-values c = λ d. ap (λ (t : PatchData). slice_index t.values.items (place c.args.patch.now.bx d)) c.deref_mut-data.ensures.value

pub returns-clause-marks : goal.returns-clause-marks
unfolding mark_in
returns-clause-marks c = λ d. ap (λ (t : PatchData). slice_index_or t.marks.items (place c.args.patch.now.bx d) false) c.deref_mut-data.ensures.value

pub returns-clause-room : goal.returns-clause-room
unfolding widest
returns-clause-room c = refl
