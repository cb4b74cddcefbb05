use Rattle.std.proofs.Common.{◌≡◌, true, ℕ, ◌<◌, ◌≤◌, slice_index}
use Rattle.amr_def.specs.Tags.{differs_by}
use Rattle.amr_criterion.proofs.pair_rows.next_even.Given as goal

abbrev pub invariant-loop-k : goal.invariant-loop-k
invariant-loop-k l = (i : ℕ) → l.from ≤ i → i < l.k → differs_by l.threshold (slice_index l.first i) (slice_index l.second i) ≡ true
