use Rattle.std.proofs.Common.{◌∙◌, [], ap, map, sym}
use Rattle.amr_def.specs.Plot.{plot_all}
use Rattle.amr_patch.specs.Meshes.{state_of}
use Rattle.amr_run.proofs.SoundRuns.{meshes_flock, meshes_whole}
use Rattle.amr_run.proofs.batch.LoneWorker.plot_of.Goals as goal

pub plot_all_len-requires-clause-whole : goal.plot_all_len-requires-clause-whole
plot_all_len-requires-clause-whole g c = meshes_whole c.args.problem.now c.in_ok-flock.flock c.meshes-meshes.result.now c.meshes-meshes.ensures c.in_ok-flock.ensures.flock

pub plot_all_len-requires-clause-flock : goal.plot_all_len-requires-clause-flock
plot_all_len-requires-clause-flock g c = meshes_flock c.args.problem.now c.in_ok-flock.flock c.meshes-meshes.result.now c.meshes-meshes.ensures c.in_ok-flock.ensures.flock

pub plot_all-requires-clause-whole : goal.plot_all-requires-clause-whole
plot_all-requires-clause-whole g c = meshes_whole c.args.problem.now c.in_ok-flock.flock c.meshes-meshes.result.now c.meshes-meshes.ensures c.in_ok-flock.ensures.flock

pub plot_all-requires-clause-flock : goal.plot_all-requires-clause-flock
plot_all-requires-clause-flock g c = meshes_flock c.args.problem.now c.in_ok-flock.flock c.meshes-meshes.result.now c.meshes-meshes.ensures c.in_ok-flock.ensures.flock

pub returns-in-Ok-clause-text : goal.returns-in-Ok-clause-text
returns-in-Ok-clause-text g c =
    c.into_bytes.ensures.held ∙ sym (c.in-Ok.ensures.whole [] c.in_ok-page.ensures.told) ∙ ap (plot_all c.args.problem.now) (ap (map state_of) c.meshes-meshes.ensures ∙ c.in_ok-flock.ensures.value)
