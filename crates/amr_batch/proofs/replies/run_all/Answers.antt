use Rattle.std.proofs.Common.{◌≡◌, ℕ, All, length, sym, subst, arith}
use Rattle.amr_balance.specs.Shares.{lists_in}
use Rattle.amr_batch.specs.Replies.{HasTasks}
use Rattle.amr_batch.proofs.LotTasks.{share_tasks}
use Rattle.amr_batch.proofs.replies.run_all.Goals as goal

pub serve_all-requires-clause-tasks : goal.serve_all-requires-clause-tasks
serve_all-requires-clause-tasks g c κs within =
    let n : ℕ = length c.args.spans.now in
    let same : length c.deref.result.now ≡ n = omega (arith, c.deref.ensures.len, c.in_ok-areas.ensures.len) in
    subst (λ ls. All (HasTasks n) ls) (sym c.deref_mut.ensures.value) (c.in_ok-lots.ensures n (share_tasks c.deref.result.now c.args.workers n (lists_in c.in_ok-shares.shares.items) c.in_ok-shares.ensures.turns same))
