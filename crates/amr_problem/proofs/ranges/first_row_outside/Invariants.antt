use Rattle.std.proofs.Common.{◌≡◌, map, drop}
use Rattle.amr_problem.specs.Keys.{ranges_of, first_outside}
use Rattle.amr_problem.specs.declared.key.Key.TheVariants.{Blocks}
use Rattle.amr_problem.specs.Faults.{first_some}
use Rattle.amr_problem.proofs.ranges.first_row_outside.Given as goal

abbrev pub invariant-loop-row : goal.invariant-loop-row
invariant-loop-row l =
    first_some (map (first_outside (ranges_of Blocks)) l.rows) ≡ first_some (map (first_outside (ranges_of Blocks)) (drop l.row-index l.rows))
