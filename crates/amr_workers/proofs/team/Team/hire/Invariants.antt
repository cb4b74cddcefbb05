use Rattle.std.proofs.Common.{◌≡◌, ℕ, ◌+◌, ◌<◌, length, get_or}
use Rattle.std.specs.Arc.{arc_value}
use Rattle.std.specs.List.{All}
use Rattle.amr_workers.specs.declared.helper.Helper.{Helper}
use Rattle.amr_workers.specs.declared.helper.Recruit.{Recruit}
use Rattle.amr_workers.specs.declared.order.DrawOrder.{DrawOrder}
use Rattle.amr_workers.specs.Helpers.{IsHelper, IsRecruit}
use Rattle.amr_workers.proofs.team.Team.hire.Given as goal

-- there is a kept worker for each number so far
abbrev pub invariant-loop-number : goal.invariant-loop-number
invariant-loop-number g l = record {
  helpers : All (λ (h : Helper g.row.P.Denot g.row.J.Denot g.row.G.Denot). IsHelper {O = DrawOrder g.row.P.Denot} l.job l.gate l.workers (arc_value h.mailbox) h.asker) l.helpers.items;
  recruits : All (λ (r : Recruit g.row.P.Denot g.row.J.Denot g.row.G.Denot). IsRecruit {O = DrawOrder g.row.P.Denot} l.job l.gate (arc_value r.mailbox) r.worker r.number) l.recruits.items;
  count : 1 + length l.helpers.items ≡ l.number;
  recruited : length l.recruits.items ≡ length l.helpers.items;
  numbers : (k : ℕ) (r : Recruit g.row.P.Denot g.row.J.Denot g.row.G.Denot) → k < length l.recruits.items → (get_or l.recruits.items k r).number ≡ 1 + k;
}
