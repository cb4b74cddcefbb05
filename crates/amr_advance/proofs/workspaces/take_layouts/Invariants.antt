use Rattle.std.proofs.Common.{◌≤◌}
use Rattle.std.specs.Prelude.{vec_capacity}
use Rattle.amr_advance.proofs.TakenLayouts.{AreTakenTo}
use Rattle.amr_advance.proofs.workspaces.take_layouts.Given as goal

-- the first layouts are taken, and those from the next one on stand
abbrev pub invariant-loop-k : goal.invariant-loop-k
invariant-loop-k l = record { room : l.count ≤ vec_capacity l.run; taken : AreTakenTo l.first l.k l.initial.layouts l.layouts l.run.items }
