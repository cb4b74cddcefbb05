use Rattle.std.proofs.Common.{ℕ, ◌+◌, ◌-◌, ◌<◌, ◌≤◌, slice_index}
use Rattle.amr_criterion.proofs.pair_rows.count_even.Given as goal

-- no difference before place k is above the greatest
abbrev pub invariant-loop-k : goal.invariant-loop-k
invariant-loop-k l = (i : ℕ) → i < l.k → (slice_index l.first i - slice_index l.second i) + (slice_index l.second i - slice_index l.first i) ≤ l.most
