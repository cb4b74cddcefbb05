use Rattle.std.proofs.Common.{ℕ, All}
use Rattle.amr_balance.specs.Shares.{lists_in}
use Rattle.amr_batch.specs.Replies.{AreTasks, HasTasks}
use Rattle.amr_batch.proofs.replies.lots_of.Given as goal

-- the shares so far have their lots
abbrev pub invariant-loop-numbers : goal.invariant-loop-numbers
invariant-loop-numbers g l = (n : ℕ) → All (AreTasks n) (lists_in l.yielded) → All (HasTasks n) l.lots.items
