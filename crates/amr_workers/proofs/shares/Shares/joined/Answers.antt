use Rattle.amr_workers.proofs.Loans.{joined_may}
use Rattle.amr_workers.proofs.shares.Shares.joined.Goals as goal

pub returns-clause-seat : goal.returns-clause-seat
returns-clause-seat g c =
    let one = joined_may c.args.board.now c.args.self.first c.args.self.second c.join.new.seat c.join.ensures.seat c.join.ensures.view c.requires.first c.requires.second in
    joined_may c.args.board.now c.join.new.seat c.args.self.third c.join-2.new.seat c.join-2.ensures.seat c.join-2.ensures.view one c.requires.third
