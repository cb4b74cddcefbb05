use Rattle.std.proofs.Common.{◌∙◌, [], ap, map, refl}
use Rattle.amr_causes.proofs.ByteLaws.{grows_none, were_left}
use Rattle.amr_def.specs.Plot.{plot_all}
use Rattle.amr_patch.specs.Meshes.{state_of}
use Rattle.amr_run.specs.Table.{run_row}
use Rattle.amr_run.proofs.Outcomes.{cut_short, is_plot_of_run, out_of_memory, refused_by, stops_within, unread}
use Rattle.amr_run.proofs.SoundRuns.{meshes_flock, meshes_whole}
use Rattle.amr_run.specs.declared.status.Status.TheVariants.{NoMemory}
use Rattle.amr_run.proofs.commands.run.Goals as goal

pub returns-in_err-given-clause-outcome : goal.returns-in_err-given-clause-outcome
returns-in_err-given-clause-outcome g c =
    let read = c.in_err-given.ensures.problem in
    (read.0, ([], read.1, grows_none g.O.Sink.holds c.args.out.now, λ seen. refused_by (run_row c.args.to) c.from_residual.result _ read.0 seen [] [] c.from_residual.ensures.1 (unread (run_row c.args.to) _ read.0 seen tt read.2)))

pub run_to-requires-clause-within : goal.run_to-requires-clause-within
run_to-requires-clause-within g c κs within = stops_within c.args.to c.in_ok-given.given.problem c.stop_of-target.result c.stop_of-target.ensures

pub returns-in_err-flock-clause-outcome : goal.returns-in_err-flock-clause-outcome
returns-in_err-flock-clause-outcome g c =
    let left = were_left (g.S.Source.left c.args.src.now) in
    (left.0, ([], left.1, grows_none g.O.Sink.holds c.args.out.now, λ seen. out_of_memory (run_row c.args.to) c.from_residual-in_err-flock.result NoMemory left.0 seen c.from_residual-in_err-flock.ensures.1 refl))

pub plot_all_in_threads-requires-clause-whole : goal.plot_all_in_threads-requires-clause-whole
plot_all_in_threads-requires-clause-whole g c κs within = meshes_whole c.in_ok-given.given.problem c.in_ok-flock.flock c.meshes.result.now c.meshes.ensures c.in_ok-flock.ensures.flock

pub plot_all_in_threads-requires-clause-flock : goal.plot_all_in_threads-requires-clause-flock
plot_all_in_threads-requires-clause-flock g c κs within = meshes_flock c.in_ok-given.given.problem c.in_ok-flock.flock c.meshes.result.now c.meshes.ensures c.in_ok-flock.ensures.flock

pub returns-in_err-plot_all_in_threads-clause-outcome : goal.returns-in_err-plot_all_in_threads-clause-outcome
returns-in_err-plot_all_in_threads-clause-outcome g c =
    let read = c.in_ok-given.ensures.problem in
    let states = map state_of c.meshes.result.now in
    let answer = is_plot_of_run read.0 c.args.to c.in_ok-given.given.problem states c.stop_of-target.result read.2.1 c.stop_of-target.ensures (ap (map state_of) c.meshes.ensures ∙ c.in_ok-flock.ensures.value) c.in_ok-flock.ensures.run in
    let part = c.in_err-plot_all_in_threads.ensures.short in
    (read.0, (part.0, read.1, part.2, λ seen. cut_short (run_row c.args.to) c.from_residual-in_err-plot_all_in_threads.result read.0 seen (plot_all c.in_ok-given.given.problem states) part.0 c.from_residual-in_err-plot_all_in_threads.ensures.1 (answer, refl) part.1))

pub returns-clause-outcome : goal.returns-clause-outcome
returns-clause-outcome g c =
    let read = c.in_ok-given.ensures.problem in
    let states = map state_of c.meshes.result.now in
    let answer = is_plot_of_run read.0 c.args.to c.in_ok-given.given.problem states c.stop_of-target.result read.2.1 c.stop_of-target.ensures (ap (map state_of) c.meshes.ensures ∙ c.in_ok-flock.ensures.value) c.in_ok-flock.ensures.run in
    (read.0, (plot_all c.in_ok-given.given.problem states, read.1, c.in_ok-plot_all_in_threads.ensures.whole, λ seen. (answer, refl)))
