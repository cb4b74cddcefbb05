use Rattle.std.proofs.Common.{◌≡◌, length, take}
use Rattle.std.specs.Option.{option_copied}
use Rattle.std.specs.List.{All}
use Rattle.amr_def.specs.Domain.{domain}
use Rattle.amr_def.specs.State.{Masses}
use Rattle.amr_def.specs.Value.{value_at}
use Rattle.amr_ghost.specs.Frames.{is_of_level, old_masses}
use Rattle.amr_ghost.specs.Outer.{AreOuterValuesFor, HasNoMass, value_count}
use Rattle.amr_ghost.proofs.outer.find_all.Given as goal

-- the values of the spans so far are worked out
abbrev pub invariant-loop-k : goal.invariant-loop-k
invariant-loop-k l = record {
  done : l.done ≡ value_count (take l.k l.fn.spans);
  count : length l.values ≡ length l.initial.values;
  found : (m : Masses) → All (HasNoMass (domain l.fn.p l.fn.l) m) l.fn.spans → AreOuterValuesFor (value_at l.fn.p l.fn.l m (old_masses (option_copied l.fn.old))) (is_of_level l.fn.p l.fn.l m) (take l.k l.fn.spans) l.values;
}
