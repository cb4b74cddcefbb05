use Rattle.std.proofs.Common.{◌*◌, take}
use Rattle.amr_layout.specs.Arounds.{around_of}
use Rattle.amr_layout.specs.LevelFlowLists.{AreFlowsOfRun}
use Rattle.amr_layout.proofs.in_threads.join_runs.Given as goal

-- the flows of the first runs stand in the list
abbrev pub invariant-loop-k : goal.invariant-loop-k
invariant-loop-k l = AreFlowsOfRun (around_of l.s) (take (l.k * l.size) l.s.patches.now) l.all
