use Rattle.std.proofs.Common.{◌≤◌, ◌-◌}
use Rattle.amr_box.specs.Cells.{width}
use Rattle.amr_patch.specs.Levels.{level_of}
use Rattle.amr_decoder.proofs.ChangedRows.{AreCopied}
use Rattle.amr_decoder.proofs.changed.copy_row.Given as goal

-- the masses before column `first` are added
abbrev pub invariant-loop-first : goal.invariant-loop-first
invariant-loop-first l = record {
  copied : AreCopied (level_of l.level).masses l.b l.j l.first l.initial.masses.items l.masses.items;
  within : l.first ≤ width l.b;
}

abbrev pub decreases-loop-first : goal.decreases-loop-first
decreases-loop-first l = l.columns - l.first
