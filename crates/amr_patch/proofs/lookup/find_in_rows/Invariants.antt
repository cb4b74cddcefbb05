use Rattle.std.proofs.Common.{◌-ℤ◌, ◌≤ℤ◌}
use Rattle.std.specs.Prelude.{IsTrue}
use Rattle.std.specs.List.{All}
use Rattle.amr_box.specs.Cells.{at_least_zero, holds}
use Rattle.amr_patch.specs.Patches.{box}
use Rattle.amr_patch.proofs.lookup.find_in_rows.Given as goal

-- a patch that has the cell starts in row y or below
abbrev pub invariant-loop-y : goal.invariant-loop-y
invariant-loop-y l = record {
  reach : All (λ p. IsTrue (holds (box p) l.c) → (box p).lo.y ≤ℤ l.y) l.patches;
  high : l.y ≤ℤ l.c.y;
}

abbrev pub decreases-loop-y : goal.decreases-loop-y
decreases-loop-y l = at_least_zero (l.y -ℤ l.bottom)
