use Rattle.std.proofs.Common.{ℕ, ◌<◌, ◌≤◌, ◌-◌}
use Rattle.amr_box.specs.Cells.{width}
use Rattle.amr_codec.specs.Forms.{HasMassAt, masses_before}
use Rattle.amr_patch.specs.BoxRows.{mass_in}
use Rattle.amr_codec.proofs.changes.keeps_row.Given as goal

-- the cells before column `first` have
abbrev pub invariant-loop-first : goal.invariant-loop-first
invariant-loop-first l = record {
  same : (i : ℕ) → i < l.first → HasMassAt (masses_before l.old) l.b l.row i (mass_in l.level l.b l.row i);
  within : l.first ≤ width l.b;
}

abbrev pub decreases-loop-first : goal.decreases-loop-first
decreases-loop-first l = l.columns - l.first
