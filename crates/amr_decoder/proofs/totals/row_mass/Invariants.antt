use Rattle.std.proofs.Common.{◌≡◌, ◌*◌, ◌-◌, ◌^◌, ◌≤◌}
use Rattle.amr_box.specs.Cells.{width}
use Rattle.amr_patch.specs.BoxRows.{mass_in}
use Rattle.amr_def.specs.Ledger.{sum_to}
use Rattle.amr_decoder.proofs.totals.row_mass.Given as goal

-- `sum` is the mass of the columns before `first`
abbrev pub invariant-loop-first : goal.invariant-loop-first
invariant-loop-first l = record {
  value : l.sum ≡ sum_to (mass_in l.level l.b l.row) l.first;
  small : l.sum ≤ l.first * 2 ^ 32;
  within : l.first ≤ width l.b;
}

abbrev pub decreases-loop-first : goal.decreases-loop-first
decreases-loop-first l = l.columns - l.first
