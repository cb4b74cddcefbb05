use Rattle.std.proofs.Common.{◌≡◌, ℕ, ◌<◌, slice_index}
use Rattle.amr_sign.specs.Counts.{count_to}
use Rattle.amr_sign.specs.Rows.{columns_of, entry}
use Rattle.amr_sign.proofs.rows.count_rows.Given as goal

abbrev pub invariant-loop-j : goal.invariant-loop-j
invariant-loop-j l = (j : ℕ) → j < l.j → slice_index l.counts j ≡ count_to (λ i. entry l.rows j i) (columns_of l.rows)
