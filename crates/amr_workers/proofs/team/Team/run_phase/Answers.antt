use Rattle.std.proofs.Common.{length, subst, arith}
use Rattle.amr_board.specs.BoardOf.{BoardOf}
use Rattle.amr_workers.specs.Shares.{MayLend}
use Rattle.amr_workers.proofs.team.Team.run_phase.Goals as goal

pub run_with-seat-requires-clause-seats : goal.run_with-seat-requires-clause-seats
run_with-seat-requires-clause-seats g c =
    let kept = length c.self.inside.helpers.items in
    subst (λ (x : BoardOf g.row.P.Denot). MayLend x kept c.of-seats.result) c.deref.ensures (c.of-seats.ensures.enough kept (let few = c.self.invariant.1 in omega arith))
