use Rattle.std.proofs.Common.{◌≡◌, ℕ, ◌+◌, ◌<◌, ◌≤◌, false, slice_index, slice_index_or}
use Rattle.amr_sign.specs.Counts.{bit}
use Rattle.amr_sign.proofs.rows.add_row.Given as goal

abbrev pub invariant-loop-i : goal.invariant-loop-i
invariant-loop-i l = record {
  below : (k : ℕ) → k < l.i → slice_index l.counts k ≡ slice_index l.initial.counts k + bit (slice_index_or l.row k false);
  from : (k : ℕ) → l.i ≤ k → slice_index l.counts k ≡ slice_index l.initial.counts k;
}
