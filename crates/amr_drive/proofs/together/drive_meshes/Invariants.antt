use Rattle.std.proofs.Common.{◌≡◌, ◌-◌, ◌≤◌, map}
use Rattle.amr_def.specs.Species.{finish_all, step_of}
use Rattle.amr_patch.specs.Meshes.{state_of}
use Rattle.amr_drive.specs.Lanes.{StandsAt}
use Rattle.amr_drive.proofs.together.drive_meshes.Given as goal

-- all are as the run has them at this step
abbrev pub invariant-loop-step : goal.invariant-loop-step
invariant-loop-step g l = record {
  stands : StandsAt l.p l.workers.count l.step l.meshes l.lanes.items;
  value : map state_of l.meshes ≡ finish_all l.p (map state_of l.fn.meshes) l.step;
  begun : step_of (map state_of l.fn.meshes) ≤ l.step;
  upto : l.step ≤ l.target;
}

abbrev pub decreases-loop-step : goal.decreases-loop-step
decreases-loop-step g l = l.target - l.step
