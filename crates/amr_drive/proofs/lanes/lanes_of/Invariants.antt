use Rattle.std.proofs.Common.{◌≡◌, ℕ, ◌<◌, length}
use Rattle.std.specs.Prelude.{slice_index_or}
use Rattle.amr_def.specs.declared.problem.Problem.{Problem}
use Rattle.amr_drive.specs.declared.lanes.Lane.{Lane}
use Rattle.amr_drive.specs.Lanes.{IsNewLane}
use Rattle.amr_drive.proofs.lanes.lanes_of.Given as goal

abbrev pub invariant-loop-k : goal.invariant-loop-k
invariant-loop-k l = record {
  count : length l.lanes.items ≡ l.k;
  new : (k : ℕ) (p : Problem) (e : Lane) → k < l.k → IsNewLane l.workers (slice_index_or l.problems k p) (slice_index_or l.lanes.items k e);
}
