use Rattle.std.proofs.Common.{length}
use Rattle.amr_cycle.proofs.levels.+step_levels.Given as goal

-- each call has one level fewer
abbrev pub decreases-step_levels : goal.decreases-step_levels
decreases-step_levels g l = length l.finer.now
