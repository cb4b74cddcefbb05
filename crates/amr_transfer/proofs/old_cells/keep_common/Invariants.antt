use Rattle.amr_box.specs.Cells.{holds}
use Rattle.amr_patch.specs.Patches.{mass_in}
use Rattle.amr_transfer.specs.Given.{IsGiven, rows_to}
use Rattle.amr_transfer.proofs.old_cells.keep_common.Given as goal

-- the first rows are kept
abbrev pub invariant-loop-k : goal.invariant-loop-k
invariant-loop-k l = IsGiven (holds (rows_to l.common l.k)) (mass_in l.old) l.initial.patch l.patch
