use Rattle.std.proofs.Common.{◌≡◌, ℕ, ◌<◌, length, slice_index}
use Rattle.amr_sign.specs.Counts.{count_to}
use Rattle.amr_sign.specs.Rows.{entry}
use Rattle.amr_sign.proofs.rows.count_columns.Given as goal

abbrev pub invariant-loop-row : goal.invariant-loop-row
invariant-loop-row l = (i : ℕ) → i < length l.counts → slice_index l.counts i ≡ count_to (λ j. entry l.rows j i) l.row-index
