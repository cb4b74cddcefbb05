use Rattle.amr_patch.specs.Meshes.{state_of}
use Rattle.amr_cycle.proofs.steps.step.Goals as goal

pub step_kept-requires-clause-kept : goal.step_kept-requires-clause-kept
step_kept-requires-clause-kept g c κs within = c.nothing.ensures c.args.p.now (state_of c.args.mesh.now).levels

pub step_kept-requires-clause-crew : goal.step_kept-requires-clause-crew
step_kept-requires-clause-crew g c κs within = λ tasks. record {
  some_workers = c.requires.some_workers;
  few_workers = c.requires.few_workers;
  gate = λ worker task invited _. c.requires.gate worker task invited;
  team = tt;
}
