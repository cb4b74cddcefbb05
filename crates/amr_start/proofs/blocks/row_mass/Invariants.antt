use Rattle.std.proofs.Common.{◌≡◌, ◌+◌, ◌*◌, ◌^◌, ◌≤◌, get_or}
use Rattle.amr_def.specs.Ledger.{sum_to}
use Rattle.amr_start.proofs.blocks.row_mass.Given as goal

-- `sum` is the sum of the cells before x
abbrev pub invariant-loop-x : goal.invariant-loop-x
invariant-loop-x l = (l.sum ≡ sum_to (λ x. get_or l.masses (l.y * l.columns + x) 0) l.x) × (l.sum ≤ l.x * 2 ^ 31)
