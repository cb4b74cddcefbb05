use Rattle.std.proofs.Common.{◌≡◌}
use Rattle.std.specs.Arc.{arc_value}
use Rattle.amr_workers.proofs.shared.sole.Given as goal

abbrev pub invariant-turns : goal.invariant-turns
invariant-turns g l = (goal.iterator-turns g).can_next l.iterator' × (goal.iterator-turns g).is_finite l.iterator' × (arc_value l.shared ≡ arc_value l.initial.shared)
