use Rattle.amr_workers.proofs.Loans.{turned}
use Rattle.amr_workers.proofs.Seats.{other_may}
use Rattle.amr_workers.proofs.shares.Shares.lend.Goals as goal

pub returns-clause-seat : goal.returns-clause-seat
returns-clause-seat g c = other_may c.args.board.now c.args.self.first c.split-lent.result c.split-lent.ensures.other c.split-lent.ensures.new c.requires.first

pub returns-clause-others : goal.returns-clause-others
returns-clause-others g c = λ workers may. turned c.args.board.now workers c.args.self c.split-lent.new.seat c.split-lent.ensures.seat c.split-lent.ensures.view may
