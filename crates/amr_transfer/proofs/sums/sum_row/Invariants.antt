use Rattle.std.proofs.Common.{◌-◌, ◌≤◌}
use Rattle.amr_box.specs.Cells.{holds}
use Rattle.amr_patch.specs.Pairwise.{Pairwise}
use Rattle.amr_transfer.specs.Given.{IsGiven, span}
use Rattle.amr_transfer.specs.Sums.{children_in}
use Rattle.amr_transfer.proofs.sums.sum_row.Given as goal

-- the first cells have their sums
abbrev pub invariant-loop-done : goal.invariant-loop-done
invariant-loop-done l = record {
  within : l.done ≤ l.count;
  given : Pairwise (IsGiven (holds (span l.c l.done)) (children_in l.fine)) l.initial.patches l.patches;
}

abbrev pub decreases-loop-done : goal.decreases-loop-done
decreases-loop-done l = l.count - l.done
