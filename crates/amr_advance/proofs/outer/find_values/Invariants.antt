use Rattle.std.specs.Option.{option_copied}
use Rattle.amr_ghost.specs.Frames.{old_masses}
use Rattle.amr_lots.proofs.InPlaces.{AreChangedTo}
use Rattle.amr_advance.specs.Outer.{HasFound}
use Rattle.amr_advance.proofs.outer.find_values.Given as goal

-- the lots before this one have their values
abbrev pub invariant-loop-k : goal.invariant-loop-k
invariant-loop-k l = AreChangedTo (λ j. HasFound l.given.problem.now l.given.level (old_masses (option_copied l.given.old))) l.k l.initial.lots l.lots
