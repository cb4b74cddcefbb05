use Rattle.std.proofs.Common.{◌-◌, ◌≤◌}
use Rattle.amr_box.specs.Cells.{holds}
use Rattle.amr_def.specs.Regrid.{split_mass}
use Rattle.amr_patch.specs.Levels.{level_of}
use Rattle.amr_transfer.specs.Given.{IsGiven, span}
use Rattle.amr_transfer.proofs.new_masses.split_row.Given as goal

-- the first cells have their shares
abbrev pub invariant-loop-done : goal.invariant-loop-done
invariant-loop-done l = record {
  within : l.done ≤ l.width;
  given : IsGiven (holds (span l.low l.done)) (split_mass (level_of l.coarse).masses) l.initial.patch l.patch;
}

abbrev pub decreases-loop-done : goal.decreases-loop-done
decreases-loop-done l = l.width - l.done
