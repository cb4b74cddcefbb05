use Rattle.std.proofs.Common.{◌≡◌, ℕ, ◌<◌}
use Rattle.std.specs.Prelude.{slice_index}
use Rattle.amr_transfer.specs.Sums.{four_at}
use Rattle.amr_transfer.proofs.sums.sum_rows.Given as goal

-- the sums below place k
abbrev pub invariant-loop-k : goal.invariant-loop-k
invariant-loop-k l = (j : ℕ) → j < l.k → slice_index l.sums j ≡ four_at l.lower l.upper j
