use Rattle.std.proofs.Common.{◌≡◌, ◌*◌, ◌^◌, ◌≤◌}
use Rattle.amr_def.specs.Ledger.{sum_to}
use Rattle.amr_start.specs.Rows.{row_mass_in}
use Rattle.amr_start.proofs.blocks.total_mass.Given as goal

-- `sum` is the sum of the rows before y
abbrev pub invariant-loop-y : goal.invariant-loop-y
invariant-loop-y l = (l.sum ≡ sum_to (row_mass_in l.columns l.masses) l.y) × (l.sum ≤ l.y * (256 * 2 ^ 31))
