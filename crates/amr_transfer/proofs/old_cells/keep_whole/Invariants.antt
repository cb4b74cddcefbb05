use Rattle.amr_box.specs.Cells.{holds}
use Rattle.amr_patch.specs.Patches.{masses_in}
use Rattle.amr_transfer.specs.Given.{HasOldMasses, rows_to}
use Rattle.amr_transfer.proofs.old_cells.keep_whole.Given as goal

-- the first rows are kept
abbrev pub invariant-loop-k : goal.invariant-loop-k
invariant-loop-k l = HasOldMasses (masses_in l.old) (holds (rows_to l.b l.k)) l.initial.patch l.patch
