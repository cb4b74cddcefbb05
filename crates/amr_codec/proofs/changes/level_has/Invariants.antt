use Rattle.std.proofs.Common.{ℕ, ◌+◌, ◌-◌, ◌<◌, ◌≤◌, length}
use Rattle.std.specs.Prelude.{slice_index}
use Rattle.amr_patch.specs.Levels.{level_of}
use Rattle.amr_codec.specs.Forms.{HasMassAt}
use Rattle.amr_codec.proofs.changes.level_has.Given as goal

-- the cells so far have their masses
abbrev pub invariant-loop-done : goal.invariant-loop-done
invariant-loop-done l = record {
  same : (k : ℕ) → k < l.done → HasMassAt (level_of l.level).masses l.b l.row (l.first + k) (slice_index l.masses k);
  within : l.done ≤ length l.masses;
}

abbrev pub decreases-loop-done : goal.decreases-loop-done
decreases-loop-done l = length l.masses - l.done
