use Rattle.std.proofs.Common.{◌≡◌, ℕ, ◌+◌, ◌<◌}
use Rattle.std.specs.Prelude.{slice_index}
use Rattle.amr_flux.specs.Paces.{IsDone, IsUndone, IsWordOf, mass_by_ends, row_before, y_share}
use Rattle.amr_flux.specs.Tables.{value, x_marked}
use Rattle.amr_flux.proofs.RowOrder.{IsCounted}
use Rattle.amr_flux.proofs.patch_steps.step_rows.Given as goal

-- the rows that are done have their new masses, all else is as before, what flows across into the next row is known, and the
-- marked rows that are done are counted
abbrev pub invariant-loop-k : goal.invariant-loop-k
invariant-loop-k l = record {
  made : (i j : ℕ) → i < l.shape.w → j < l.shape.h → IsDone l.down l.shape.h l.k j → IsWordOf (mass_by_ends l.pace l.shape.w l.border.marks.now l.border.sizes.now l.fn.values i j) (value l.shape.w l.values (i + 1) (j + 1));
  others : (q : ℕ) → IsUndone l.down l.shape.w l.shape.h l.k q → slice_index l.values q ≡ slice_index l.fn.values q;
  passed : (i : ℕ) → i < l.shape.w → slice_index l.across i ≡ y_share l.pace (value l.shape.w l.fn.values (i + 1) (row_before l.down l.shape.h l.k));
  used : IsCounted l.down (x_marked l.shape.w l.border.marks.now) l.shape.h l.k l.used;
}
