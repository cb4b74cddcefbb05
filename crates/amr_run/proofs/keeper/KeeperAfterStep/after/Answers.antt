use Rattle.std.proofs.Common.{refl}
use Rattle.amr_def.specs.Run.{finish}
use Rattle.amr_patch.specs.Meshes.{state_of}
use Rattle.amr_checkpoint.proofs.Later.{later_of_run}
use Rattle.amr_run.proofs.keeper.KeeperAfterStep.after.Goals as goal

pub returns-in-Ok-clause-ready : goal.returns-in-Ok-clause-ready
returns-in-Ok-clause-ready g c p k later before = record {
  sound = before.sound;
  some = before.some;
  store = c.in-Ok.kept;
  is = refl;
  may = c.in-Ok.ensures.next (finish p (state_of c.args.mesh.now) k) (later_of_run p (state_of c.args.mesh.now) k later);
}
