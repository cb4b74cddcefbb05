use Rattle.std.proofs.Common.{◌≡◌, ◌*◌, ◌^◌, ◌≤◌}
use Rattle.amr_box.specs.Cells.{width}
use Rattle.amr_patch.specs.BoxRows.{mass_in}
use Rattle.amr_def.specs.Ledger.{sum_to}
use Rattle.amr_decoder.proofs.totals.box_mass.Given as goal

-- `sum` is the mass of the rows before `row`
abbrev pub invariant-loop-row : goal.invariant-loop-row
invariant-loop-row l = record {
  value : l.sum ≡ sum_to (λ j. sum_to (mass_in l.level l.b j) (width l.b)) l.row;
  small : l.sum ≤ l.row * 2 ^ 40;
}
