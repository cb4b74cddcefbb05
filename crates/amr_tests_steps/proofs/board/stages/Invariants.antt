use Rattle.std.proofs.Common.{ℕ, ◌<◌, ◌≤◌}
use Rattle.amr_lots.specs.declared.lot.Work.{Work}
use Rattle.amr_advance.specs.Phases.{IsPieceOf}
use Rattle.amr_tests_steps.proofs.board.stages.Given as goal

-- the pieces from this task on are there
abbrev pub invariant-loop-task : goal.invariant-loop-task
invariant-loop-task l = (t : ℕ) → l.task ≤ t → t < l.count → (w : Work) × IsPieceOf l.ended t w
