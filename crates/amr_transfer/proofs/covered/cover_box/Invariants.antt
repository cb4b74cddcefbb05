use Rattle.amr_box.specs.Cells.{holds}
use Rattle.amr_transfer.specs.Given.{IsGiven, rows_to}
use Rattle.amr_transfer.specs.Sums.{children_in}
use Rattle.amr_transfer.proofs.covered.cover_box.Given as goal

-- the cells of the first rows have their sums
abbrev pub invariant-loop-k : goal.invariant-loop-k
invariant-loop-k l = IsGiven (holds (rows_to l.b l.k)) (children_in l.fine) l.initial.patch l.patch
