use Rattle.std.proofs.Common.{◌-◌, ◌≤◌}
use Rattle.amr_box.specs.Cells.{holds}
use Rattle.amr_patch.specs.Patches.{masses_in}
use Rattle.amr_transfer.specs.Given.{HasOldMasses, span}
use Rattle.amr_transfer.proofs.old_cells.keep_row.Given as goal

-- the first cells are kept
abbrev pub invariant-loop-done : goal.invariant-loop-done
invariant-loop-done l = record {
  within : l.done ≤ l.width;
  kept : HasOldMasses (masses_in l.old) (holds (span l.low l.done)) l.initial.patch l.patch;
}

abbrev pub decreases-loop-done : goal.decreases-loop-done
decreases-loop-done l = l.width - l.done
