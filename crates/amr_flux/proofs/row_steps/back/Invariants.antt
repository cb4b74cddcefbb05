use Rattle.std.proofs.Common.{◌≡◌, ℕ, ◌+◌, ◌<◌, ◌≤◌}
use Rattle.std.specs.Prelude.{slice_index}
use Rattle.amr_flux.specs.Paces.{gone, x_share, y_share}
use Rattle.amr_flux.proofs.row_steps.back.Given as goal

-- the masses and the flows across before place k are new, the others old
abbrev pub invariant-loop-k : goal.invariant-loop-k
invariant-loop-k l = record {
  made : (k : ℕ) → k < l.k → slice_index l.row k + gone l.pace (slice_index l.fn.row k) ≡ slice_index l.fn.row k + (x_share l.pace (slice_index l.fn.row (k + 1)) + slice_index l.fn.across k);
  passed : (k : ℕ) → k < l.k → slice_index l.across k ≡ y_share l.pace (slice_index l.fn.row k);
  left : (k : ℕ) → l.k ≤ k → slice_index l.row k ≡ slice_index l.fn.row k;
  left_across : (k : ℕ) → l.k ≤ k → slice_index l.across k ≡ slice_index l.fn.across k;
}
