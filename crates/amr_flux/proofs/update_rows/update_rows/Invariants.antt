use Rattle.std.proofs.Common.{◌≡◌, ℕ, ◌+◌, ◌<◌, length, pos, ◌+ℤ◌}
use Rattle.std.specs.Prelude.{slice_index, slice_index_or}
use Rattle.amr_flux.specs.Columns.{AreColumns}
use Rattle.amr_flux.specs.Tables.{IsOtherPlace, count_below, net_inflow, value, x_marked, x_through, y_through}
use Rattle.amr_flux.proofs.update_rows.update_rows.Given as goal

-- the cells of the rows below j have their new masses, all else is as before, and the room's `low` has the fluxes at the low side of row j
abbrev pub invariant-loop-j : goal.invariant-loop-j
invariant-loop-j l = record {
  columns : AreColumns l.p l.shape.level l.shape.column l.shape.w l.room.columns;
  width : length l.room.low.items ≡ length l.fn.room.low.items;
  used : l.used ≡ count_below (x_marked l.shape.w l.border.marks.now) l.j;
  low : (i : ℕ) → i < l.shape.w → slice_index_or l.room.low.items i (pos 0) ≡ y_through l.p l.shape.level l.shape.column l.shape.w l.shape.h l.border.marks.now l.border.sizes.now l.fn.values i l.j;
  made : (i j : ℕ) → i < l.shape.w → j < l.j → pos (value l.shape.w l.values (i + 1) (j + 1)) ≡ pos (value l.shape.w l.fn.values (i + 1) (j + 1)) +ℤ net_inflow (x_through l.p l.shape.level l.shape.row l.shape.w l.border.marks.now l.border.sizes.now l.fn.values) (y_through l.p l.shape.level l.shape.column l.shape.w l.shape.h l.border.marks.now l.border.sizes.now l.fn.values) i j;
  others : (k : ℕ) → IsOtherPlace l.shape.w l.j k → slice_index l.values k ≡ slice_index l.fn.values k;
}
