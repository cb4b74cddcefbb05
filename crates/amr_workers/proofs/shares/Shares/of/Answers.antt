use Rattle.amr_workers.proofs.Loans.{in_three}
use Rattle.amr_workers.proofs.shares.Shares.of.Goals as goal

pub returns-clause-enough : goal.returns-clause-enough
returns-clause-enough g c =
    let a = c.split-second.ensures in
    let b = c.split-third.ensures in
    (in_three c.args.board.now c.args.seat c.split-second.new.seat c.split-second.result c.split-third.new.seat c.split-third.result c.requires.seat c.requires.alone
    a.seat a.view a.other a.new b.seat b.view b.other b.new).0

pub returns-clause-whole : goal.returns-clause-whole
returns-clause-whole g c =
    let a = c.split-second.ensures in
    let b = c.split-third.ensures in
    (in_three c.args.board.now c.args.seat c.split-second.new.seat c.split-second.result c.split-third.new.seat c.split-third.result c.requires.seat c.requires.alone
    a.seat a.view a.other a.new b.seat b.view b.other b.new).1
