use Rattle.std.proofs.Common.{length, ◌-◌}
use Rattle.amr_batch.proofs.JobsRead.{AreRead}
use Rattle.amr_batch.proofs.spans.jobs.Given as goal

-- the jobs so far are read
abbrev pub invariant-loop-at : goal.invariant-loop-at
invariant-loop-at l = AreRead l.bytes l.spans.items l.at

abbrev pub decreases-loop-at : goal.decreases-loop-at
decreases-loop-at l = length l.bytes - l.at
