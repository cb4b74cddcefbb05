use Rattle.std.proofs.Common.{◌≡◌, false, slice_index_or}
use Rattle.amr_sign.specs.Counts.{count_to}
use Rattle.amr_sign.proofs.rows.row_count.Given as goal

abbrev pub invariant-loop-tagged : goal.invariant-loop-tagged
invariant-loop-tagged l = l.count ≡ count_to (λ i. slice_index_or l.row i false) l.tagged-index
