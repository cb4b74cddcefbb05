use Rattle.std.proofs.Common.{◌≡◌, ℕ, ◌+◌, ◌^◌, ◌<◌, pos, ◌+ℤ◌, ◌≤ℤ◌, ◌<ℤ◌, false, refl, ap, ◌∙◌, arith, rules}
use Rattle.std.specs.Prelude.{slice_index, slice_index_or}
use Rattle.std.proofs.lemmas.List.{with_items_is}
use Rattle.amr_patch.specs.declared.patches.PatchData.{PatchData}
use Rattle.amr_patch.specs.Places.{place}
use Rattle.amr_patch.specs.Patches.{flux_in, mark_in}
use Rattle.amr_patch.proofs.Rows.{sides}
use Rattle.amr_flux.specs.Rooms.{widest}
use Rattle.amr_flux.specs.Tables.{IsOtherPlace, net_inflow, value, x_through, y_through}
use Rattle.amr_flux.proofs.Owned.{x_small, y_small}
use Rattle.amr_flux.proofs.Updates.{each_at, enough, frame_stays, given_fluxes, masses_are, moved, same_along}
use Rattle.amr_box.specs.Cells.{cell}
use Rattle.amr_flux.proofs.masses.update_by.Goals as goal

pub update_cells-requires-clause-ready : goal.update_cells-requires-clause-ready
update_cells-requires-clause-ready c =
    let q = c.args.patch.now in
    let r = c.shape_of-shape.result in
    let e = c.shape_of-shape.ensures in
    let all = sides q.bx q.near in
    let fluxes = given_fluxes c.args.p.now c.args.l q r.column r.row e.stands c.args.mask.now c.args.border.now in
    record {
      level = omega (arith, e.level, c.requires.level);
      columns_inside = rw (e.columns, e.level) e.stands.columns_fit;
      rows_inside = rw (e.rows, e.level) e.stands.rows_fit;
      some_columns = omega (arith, e.columns, all.some_columns);
      some_rows = omega (arith, e.rows, all.some_rows);
      value_count = rw (e.columns, e.rows, c.deref_mut.ensures.value, c.deref_mut-data.ensures.value) q.value_count;
      are_sizes = rw (e.columns, e.rows) (record { enough = enough q c.args.mask.now c.args.border.now c.requires.border_count; small = c.requires.border_small });
      x_small = rw (e.columns, e.rows, c.deref_mut.ensures.value, c.deref_mut-data.ensures.value) (x_small q c.requires.small);
      y_small = rw (e.columns, e.rows, c.deref_mut.ensures.value, c.deref_mut-data.ensures.value) (y_small q c.requires.small);
      kept = rw (e.columns, e.rows, e.level, c.deref_mut.ensures.value, c.deref_mut-data.ensures.value) (each_at q _ _ _ fluxes (λ z. pos 0 ≤ℤ z) c.requires.kept);
      fits = rw (e.columns, e.rows, e.level, c.deref_mut.ensures.value, c.deref_mut-data.ensures.value) (each_at q _ _ _ fluxes (λ z. z <ℤ pos (2 ^ 32)) c.requires.fits);
    }

pub returns-clause-masses : goal.returns-clause-masses
returns-clause-masses c =
    let p = c.args.p.now in
    let q = c.args.patch.now in
    let held : c.deref_mut-data.result.now ≡ q.data.value = c.deref_mut-data.ensures.value in
    let border = c.args.border.now in
    let row = c.shape_of-shape.result.row in
    let column = c.shape_of-shape.result.column in
    let e = c.shape_of-shape.ensures in
    let vs = c.update_cells.new.values in
    masses_are q _ _ _ (given_fluxes p c.args.l q column row e.stands c.args.mask.now border) _ refl vs (with_items_is c.deref_mut-data.result.now.values vs (search rules))
    (moved (λ l w h v m. (i j : ℕ) → i < w → j < h → pos (value w vs (i + 1) (j + 1)) ≡ pos (value w v (i + 1) (j + 1)) +ℤ net_inflow (x_through p l row w m border v) (y_through p l column w h m border v) i j) {m = c.args.mask.now} {m' = c.args.mask.now} e.level e.columns e.rows (c.deref_mut.ensures.value ∙ ap (λ (t : PatchData). t.values.items) held) refl c.update_cells.ensures.masses.made)

pub returns-clause-frame : goal.returns-clause-frame
returns-clause-frame c =
    let q = c.args.patch.now in
    let held : c.deref_mut-data.result.now ≡ q.data.value = c.deref_mut-data.ensures.value in
    let e = c.shape_of-shape.ensures in
    let vs = c.update_cells.new.values in
    frame_stays q _ vs refl (with_items_is c.deref_mut-data.result.now.values vs (search rules))
    (moved (λ l w h v m. (k : ℕ) → IsOtherPlace w h k → slice_index vs k ≡ slice_index v k) {m = c.args.mask.now} {m' = c.args.mask.now} e.level e.columns e.rows (c.deref_mut.ensures.value ∙ ap (λ (t : PatchData). t.values.items) held) refl c.update_cells.ensures.masses.others)

pub returns-clause-marks : goal.returns-clause-marks
unfolding mark_in
returns-clause-marks c = λ d. ap (λ (t : PatchData). slice_index_or t.marks.items (place c.args.patch.now.bx d) false) c.deref_mut-data.ensures.value

pub returns-clause-fluxes : goal.returns-clause-fluxes
unfolding flux_in
returns-clause-fluxes c =
    let q = c.args.patch.now in
    let held : c.deref_mut-data.result.now ≡ q.data.value = c.deref_mut-data.ensures.value in
    λ f. same_along q _ f.axis (cell f.x f.y) refl (ap (λ (t : PatchData). t.x_low.items) held) (ap (λ (t : PatchData). t.x_high.items) held) (ap (λ (t : PatchData). t.y_low.items) held) (ap (λ (t : PatchData). t.y_high.items) held)

pub update_cells-requires-clause-room : goal.update_cells-requires-clause-room
unfolding widest
update_cells-requires-clause-room c = omega (arith, c.shape_of-shape.ensures.columns, c.requires.room)

pub returns-clause-room : goal.returns-clause-room
unfolding widest
returns-clause-room c = c.update_cells.ensures.room
