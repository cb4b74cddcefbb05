use Rattle.std.proofs.Common.{◌≡◌, false}
use Rattle.amr_def.specs.Facts.{IsSound}
use Rattle.amr_patch.specs.Meshes.{is_spent, state_of}
use Rattle.amr_cycle.specs.KeptLevels.{IsKeptFor}
use Rattle.amr_drive.specs.Flocks.{IsInPatchesOf}
use Rattle.amr_drive.specs.Lanes.{stepped_to}
use Rattle.amr_drive.proofs.intervals.make_plain_steps.Given as goal

abbrev pub invariant-loop-step : goal.invariant-loop-step
invariant-loop-step g l = record {
  workers : l.workers ≡ l.fn.workers;
  whole : is_spent l.mesh ≡ false;
  value : state_of l.mesh ≡ stepped_to l.p (state_of l.fn.mesh) l._step;
  sound : IsSound l.p (state_of l.mesh);
  patches : IsInPatchesOf l.p l.mesh;
  kept : IsKeptFor l.p (state_of l.mesh).levels l.kept;
}
