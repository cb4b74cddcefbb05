use Rattle.std.proofs.Common.{◌≡◌, ℕ, ◌+◌, ◌<◌, ◌≤◌}
use Rattle.std.specs.Prelude.{slice_index}
use Rattle.amr_flux.specs.Paces.{came, gone, y_share}
use Rattle.amr_flux.proofs.row_steps.ahead.Given as goal

-- the masses and the flows across before place k are new, the others old
abbrev pub invariant-loop-k : goal.invariant-loop-k
invariant-loop-k l = record {
  gain : l.gain ≡ came l.pace l.fn.first l.fn.row l.k;
  made : (k : ℕ) → k < l.k → slice_index l.row k + gone l.pace (slice_index l.fn.row k) ≡ slice_index l.fn.row k + (came l.pace l.fn.first l.fn.row k + slice_index l.fn.across k);
  passed : (k : ℕ) → k < l.k → slice_index l.across k ≡ y_share l.pace (slice_index l.fn.row k);
  left : (k : ℕ) → l.k ≤ k → slice_index l.row k ≡ slice_index l.fn.row k;
  left_across : (k : ℕ) → l.k ≤ k → slice_index l.across k ≡ slice_index l.fn.across k;
}
