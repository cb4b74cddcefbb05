use Rattle.std.proofs.Common.{◌≡◌, ℕ, ◌+◌, ◌<◌, true, false, pos}
use Rattle.std.specs.Prelude.{slice_index, slice_index_or}
use Rattle.amr_faces.specs.Shares.{signed}
use Rattle.amr_faces.specs.Numbers.{y_number}
use Rattle.amr_flux.specs.Tables.{count_below, y_marked}
use Rattle.amr_flux.proofs.y_faces.set_marked.Given as goal

-- the marked faces before i have their fluxes
abbrev pub invariant-loop-i : goal.invariant-loop-i
invariant-loop-i l = record {
  count : l.used ≡ count_below (y_marked l.shape.w l.shape.h l.marks) l.i;
  made : (i : ℕ) → i < l.i → y_marked l.shape.w l.shape.h l.marks i ≡ true → slice_index_or l.fluxes i (pos 0) ≡ signed (y_number l.p l.shape.level (l.shape.column + i)) (slice_index l.border (count_below (y_marked l.shape.w l.shape.h l.marks) i));
  others : (i : ℕ) → y_marked l.shape.w l.shape.h l.marks i ≡ false → slice_index_or l.fluxes i (pos 0) ≡ slice_index_or l.fn.fluxes i (pos 0);
}
