use Rattle.std.proofs.Common.{◌≡◌, ◌-◌, ◌<◌, ◌≤◌, ℕ, false, Ok}
use Rattle.std.specs.List.{All}
use Rattle.amr_def.specs.Run.{finish}
use Rattle.amr_patch.specs.Meshes.{is_spent, levels_of, state_of}
use Rattle.amr_start.specs.PatchBoxes.{IsChopped}
use Rattle.amr_cycle.specs.Cycles.{AreCoarsenableAbove}
use Rattle.amr_cycle.specs.KeptLevels.{IsKeptFor}
use Rattle.amr_drive.specs.States.{states_after}
use Rattle.amr_drive.proofs.drives.make_steps.Given as goal

-- the mesh is as the run has it at this step, and what was called so far was called once after each step
abbrev pub invariant-loop-step : goal.invariant-loop-step
invariant-loop-step g l = record {
  workers : l.workers ≡ l.fn.workers;
  whole : is_spent l.mesh ≡ false;
  value : state_of l.mesh ≡ finish l.run.job.problem.now (state_of l.fn.mesh) l._step;
  kept : IsKeptFor l.run.job.problem.now (state_of l.mesh).levels l.kept;
  patches : All (IsChopped l.run.job.problem.now.max_grid_size) (levels_of l.fn.mesh) → All (IsChopped l.run.job.problem.now.max_grid_size) (levels_of l.mesh);
  coarsenable : AreCoarsenableAbove (levels_of l.mesh);
  made : g.A.AfterStep.made l.fn.after (states_after l.run.job.problem.now (state_of l.fn.mesh) (l._step - (state_of l.fn.mesh).step)) (Ok tt) l.after;
  ready : (k : ℕ) → l._step < k → k ≤ l.run.target → g.A.AfterStep.ready l.after (finish l.run.job.problem.now (state_of l.fn.mesh) k);
}
