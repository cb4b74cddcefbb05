use Rattle.std.proofs.Common.{◌≡◌, ◌-◌, false, length}
use Rattle.amr_board.specs.Views.{HoldsNone}
use Rattle.amr_board.specs.BoardOf.{IsSeatOf}
use Rattle.amr_workers.proofs.phase.draw_all.Given as goal

abbrev pub invariant-tasks : goal.invariant-tasks
invariant-tasks g l = IsSeatOf l.board l.seat × HoldsNone (l.seat.me.0) × (l.seat.me.0.past ≡ false) × (l.seat.me.0.share ≡ l.initial.seat.me.0.share)

abbrev pub decreases-tasks : goal.decreases-tasks
decreases-tasks g l = length l.board.plan.tasks - length l.seat.me.0.tasks
