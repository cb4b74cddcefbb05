use Rattle.std.proofs.Common.{◌≡◌, ℕ, ◌<◌, ◌≤◌, pos, ◌+ℤ◌}
use Rattle.std.specs.Prelude.{slice_index}
use Rattle.amr_flux.specs.Rows.{net_in_row}
use Rattle.amr_flux.proofs.rows.update_row.Given as goal

-- the masses before place k are new, the others old
abbrev pub invariant-loop-k : goal.invariant-loop-k
invariant-loop-k l = record {
  made : (k : ℕ) → k < l.k → pos (slice_index l.masses k) ≡ pos (slice_index l.fn.masses k) +ℤ net_in_row l.x l.low l.high k;
  left : (k : ℕ) → l.k ≤ k → slice_index l.masses k ≡ slice_index l.fn.masses k;
}
