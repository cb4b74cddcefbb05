use Rattle.std.proofs.Common.{IfSome, sym, subst}
use Rattle.amr_def.specs.declared.problem.Problem.{Problem}
use Rattle.amr_lots.specs.Ready.{MayBegin}
use Rattle.amr_advance.specs.Crews.{IsTeamFor}
use Rattle.amr_advance.proofs.WorkSends.{works_sendable}
use Rattle.amr_advance.proofs.crew.run_board.Goals as goal

pub run_phase-last-requires-send-P : goal.run_phase-last-requires-send-P
run_phase-last-requires-send-P g c κs within = search works_sendable depth 12 fits 2000

pub run_phase-requires-clause-ready : goal.run_phase-requires-clause-ready
run_phase-requires-clause-ready g c = λ t w at.
    let own : IsTeamFor c.args.p.now c.args.workers.now.gate.now c.args.workers.now.count c.in-Some.team = subst (λ o. IfSome o (IsTeamFor c.args.p.now c.args.workers.now.gate.now c.args.workers.now.count)) c.in-Some.is c.requires.crew.team in
    subst (λ (p : Problem). MayBegin p c.args.board.plan w) (sym own.problem) (c.requires.ready t w at)
