use Rattle.std.proofs.Common.{◌≡◌, ℕ, ◌-◌, ◌/◌, ◌<◌, ◌≤◌, length, slice_index}
use Rattle.std.specs.Option.{option_copied}
use Rattle.amr_box.specs.Cells.{parent}
use Rattle.amr_def.specs.State.{mass_of}
use Rattle.amr_ghost.specs.Strips.{step}
use Rattle.amr_ghost.specs.Frames.{old_masses}
use Rattle.amr_ghost.proofs.outer.quarter_values.Given as goal

-- the first values are worked out
abbrev pub invariant-loop-done : goal.invariant-loop-done
invariant-loop-done l = record {
  within : l.done ≤ l.count;
  count : length l.values ≡ length l.initial.values;
  quarters : (k : ℕ) → k < l.done → slice_index l.values k ≡ mass_of (old_masses (option_copied l.fn.old)) (parent (step l.fn.axis l.fn.from k)) / 4;
}

abbrev pub decreases-loop-done : goal.decreases-loop-done
decreases-loop-done l = l.count - l.done
