use Rattle.std.proofs.Common.{slice_index}
use Rattle.amr_balance.specs.Shares.{IsLeast}
use Rattle.amr_balance.proofs.least_loaded.Given as goal

-- the least of the loads that were looked at
abbrev pub invariant-loop-w : goal.invariant-loop-w
invariant-loop-w l = IsLeast l.w (slice_index l.loads) l.least
