use Rattle.amr_box.specs.Cells.{holds}
use Rattle.amr_patch.specs.Pairwise.{Pairwise}
use Rattle.amr_transfer.specs.Given.{IsGiven, rows_to}
use Rattle.amr_transfer.specs.Sums.{children_in}
use Rattle.amr_transfer.proofs.sums.sum_patch.Given as goal

-- the first rows have their sums
abbrev pub invariant-loop-k : goal.invariant-loop-k
invariant-loop-k l = Pairwise (IsGiven (holds (rows_to l.b l.k)) (children_in l.fine)) l.initial.patches l.patches
