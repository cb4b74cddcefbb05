use Rattle.amr_drive.specs.Flocks.{states_of}
use Rattle.amr_run.proofs.SoundRuns.{is_sound_run, run_is, starts_at}
use Rattle.amr_run.proofs.commands.run_to.Goals as goal

pub drive_all-requires-clause-ahead : goal.drive_all-requires-clause-ahead
drive_all-requires-clause-ahead g c κs within = starts_at c.args.problem.now (states_of c.in_ok-flock.flock) c.args.target c.in_ok-flock.ensures.value

pub returns-clause-value : goal.returns-clause-value
returns-clause-value g c = run_is c.args.problem.now (states_of c.in_ok-flock.flock) (states_of c.drive_all.new.flock) c.args.target c.in_ok-flock.ensures.value c.in_ok-drive_all.ensures.value

pub returns-clause-run : goal.returns-clause-run
returns-clause-run g c = is_sound_run c.args.problem.now c.args.target c.requires.within
