use Rattle.std.proofs.Common.{length}
use Rattle.amr_workers.proofs.team.+run_with.Given as goal

abbrev pub decreases-run_with : goal.decreases-run_with
decreases-run_with g l = length l.helpers.now.items
