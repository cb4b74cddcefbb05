use Rattle.std.proofs.Common.{◌≡◌, ℕ, ◌+◌, ◌<◌, ◌≤◌}
use Rattle.std.specs.Prelude.{slice_index}
use Rattle.amr_sign.specs.Stretches.{open_stretches}
use Rattle.amr_sign.proofs.stretches.count_open.Given as goal

abbrev pub invariant-loop-i : goal.invariant-loop-i
invariant-loop-i l = record {
  now : l.count ≡ open_stretches (slice_index l.initial.counts) (slice_index l.ended) l.i;
  done : (k : ℕ) → k < l.i → slice_index l.counts k ≡ open_stretches (slice_index l.initial.counts) (slice_index l.ended) (k + 1);
  left : (k : ℕ) → l.i ≤ k → slice_index l.counts k ≡ slice_index l.initial.counts k;
}
