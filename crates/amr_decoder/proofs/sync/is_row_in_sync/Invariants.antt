use Rattle.std.proofs.Common.{ℕ, ◌<◌, ◌≤◌, ◌-◌}
use Rattle.amr_box.specs.Cells.{width}
use Rattle.amr_decoder.specs.Synced.{IsSumAt}
use Rattle.amr_decoder.proofs.sync.is_row_in_sync.Given as goal

-- the cells before column `first` have
abbrev pub invariant-loop-first : goal.invariant-loop-first
invariant-loop-first l = record {
  sums : (i : ℕ) → i < l.first → IsSumAt l.coarse l.fine l.parents l.row i;
  within : l.first ≤ width l.parents;
}

abbrev pub decreases-loop-first : goal.decreases-loop-first
decreases-loop-first l = l.columns - l.first
