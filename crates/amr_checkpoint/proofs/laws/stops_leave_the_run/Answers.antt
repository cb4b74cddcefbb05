use Rattle.amr_checkpoint.specs.Laws.{RunsOn}
use Rattle.amr_checkpoint.specs.Marks.{to_make}
use Rattle.amr_checkpoint.proofs.Progress.{checkpoints_run_on, same_run}
use Rattle.amr_checkpoint.proofs.Stopping.{leave_each}
use Rattle.amr_checkpoint.proofs.laws.stops_leave_the_run.Goals as goal

pub returns : goal.returns
returns g c found now bytes p every target times attempt leave runs t image from to left =
    let h = leave_each (g.D.Disk.leaves c.args.disk.now) (RunsOn bytes p target) found now (to_make bytes p every found.content target) times attempt leave runs (checkpoints_run_on bytes p every target found.content runs) t image from to left in
    record { content = h.content; held = h.held; runs_on = h.has; answer = (same_run bytes p target h.content h.has).1 }
