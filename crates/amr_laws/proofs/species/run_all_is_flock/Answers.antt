use Rattle.amr_laws.proofs.FlockRuns.{start_all-flock, next_all-flock, finish_all-flock, run_all-flock}
use Rattle.amr_laws.proofs.species.run_all_is_flock.Goals as goal

pub returns-clause-start : goal.returns-clause-start
returns-clause-start c = start_all-flock

pub returns-clause-next : goal.returns-clause-next
returns-clause-next c = next_all-flock

pub returns-clause-finish : goal.returns-clause-finish
returns-clause-finish c = finish_all-flock

pub returns-clause-run : goal.returns-clause-run
returns-clause-run c = run_all-flock
