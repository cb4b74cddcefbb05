use Rattle.std.proofs.Common.{ℕ, ◌<◌, ◌≤◌, slice_index}
use Rattle.amr_criterion.proofs.spread.with_row.Given as goal

-- the values before place k lie between
abbrev pub invariant-loop-k : goal.invariant-loop-k
invariant-loop-k l = record {
  least : l.least ≤ l.initial.least;
  most : l.initial.most ≤ l.most;
  low : (j : ℕ) → j < l.k → l.least ≤ slice_index l.row j;
  high : (j : ℕ) → j < l.k → slice_index l.row j ≤ l.most;
}
