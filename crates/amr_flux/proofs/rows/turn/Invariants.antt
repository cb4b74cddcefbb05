use Rattle.std.proofs.Common.{◌≡◌, ℕ, ◌<◌, ◌≤◌, pos}
use Rattle.std.specs.Prelude.{neg_ℤ, slice_index_or}
use Rattle.amr_flux.proofs.rows.turn.Given as goal

-- the flows before place k are turned, the others not yet
abbrev pub invariant-loop-k : goal.invariant-loop-k
invariant-loop-k l = record {
  made : (k : ℕ) → k < l.k → slice_index_or l.flows k (pos 0) ≡ neg_ℤ (slice_index_or l.fn.flows k (pos 0));
  left : (k : ℕ) → l.k ≤ k → slice_index_or l.flows k (pos 0) ≡ slice_index_or l.fn.flows k (pos 0);
}
