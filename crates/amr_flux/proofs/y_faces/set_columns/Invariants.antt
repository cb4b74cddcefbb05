use Rattle.std.proofs.Common.{◌≡◌, ℕ, ◌+◌, ◌<◌, length}
use Rattle.std.specs.Prelude.{slice_index}
use Rattle.amr_faces.specs.Numbers.{y_number}
use Rattle.amr_faces.specs.Shares.{AreFactors}
use Rattle.amr_flux.proofs.y_faces.set_columns.Given as goal

-- the columns before i have their places
abbrev pub invariant-loop-i : goal.invariant-loop-i
invariant-loop-i l = record {
  room : length l.factors.low.items ≡ length l.fn.factors.low.items;
  made : (k : ℕ) → k < l.i → AreFactors (y_number l.p l.shape.level (l.shape.column + k)) l.p.d l.limit (slice_index l.factors.low.items k) (slice_index l.factors.high.items k);
}
