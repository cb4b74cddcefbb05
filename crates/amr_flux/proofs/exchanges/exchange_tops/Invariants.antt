use Rattle.std.proofs.Common.{◌≡◌, ◌≢◌, ℕ, ◌+◌, ◌*◌, ◌<◌, ℤ, ◌+ℤ◌, ◌-ℤ◌}
use Rattle.std.specs.Prelude.{cond, slice_index}
use Rattle.amr_flux.specs.Paces.{IsWordOf, top_share}
use Rattle.amr_faces.specs.Shares.{signed}
use Rattle.amr_flux.specs.Tables.{count_below, value, y_marked}
use Rattle.amr_flux.proofs.exchanges.exchange_tops.Given as goal

-- the top faces before i are exchanged, and all other cells are as before
abbrev pub invariant-loop-i : goal.invariant-loop-i
invariant-loop-i l = record {
  used : l.used ≡ count_below (y_marked l.shape.w l.shape.h l.border.marks.now) l.i;
  tops : (i : ℕ) (z : ℤ) → i < l.i → IsWordOf z (value l.shape.w l.fn.values (i + 1) l.shape.h) → IsWordOf (z +ℤ (signed l.pace.y.number (top_share l.down l.pace l.shape.w l.shape.h l.fn.values l.across i) -ℤ cond (y_marked l.shape.w l.shape.h l.border.marks.now i) (signed l.pace.y.number (slice_index l.border.sizes.now (count_below (y_marked l.shape.w l.shape.h l.border.marks.now) i))) (signed l.pace.y.number (top_share l.down l.pace l.shape.w l.shape.h l.fn.values l.across i)))) (value l.shape.w l.values (i + 1) l.shape.h);
  others : (q : ℕ) → ((i : ℕ) → i < l.i → q ≢ l.shape.h * (l.shape.w + 2) + (i + 1)) → slice_index l.values q ≡ slice_index l.fn.values q;
}
