use Rattle.amr_run.proofs.SoundRuns.{mesh_sound}
use Rattle.amr_run.proofs.commands.mesh_of.Goals as goal

pub returns-clause-sound : goal.returns-clause-sound
returns-clause-sound c =
    mesh_sound c.args.problem.now c.args.flock.now c.meshes.result.now c.meshes.ensures c.requires.flock c.args.species c.index-meshes-species.result c.requires.species c.index-meshes-species.is
