use Rattle.std.proofs.Common.{◌∙◌}
use Rattle.amr_lots.proofs.DutyLaws.{no_adds, no_puts, served, serves, worked_none}
use Rattle.amr_lots.proofs.job.LevelWorkJobWork.work.Goals as goal

pub step-requires-clause-step : goal.step-requires-clause-step
step-requires-clause-step c = c.posts.ensures.step c.if-posts.true

pub serve_piece-requires : goal.serve_piece-requires
serve_piece-requires c = serves c.args.piece.duty c.args.board.now.plan c.args.piece (c.posts.ensures.others c.if-posts.false) c.requires.ready.duty

pub returns-clause-worked : goal.returns-clause-worked
returns-clause-worked c =
    let other = c.posts.ensures.others c.if-posts.false in
    worked_none c.args.board.now.plan c.args.seat.now.me.0 c.requires.fresh (c.requires.posts.0 ∙ no_puts c.args.piece.duty c.args.piece other) (c.requires.posts.1 ∙ no_adds c.args.piece.duty c.args.piece other)

pub returns-clause-next : goal.returns-clause-next
returns-clause-next c = record {
  keeps = c.serve_piece.ensures.keeps;
  does = served c.args.piece.duty c.args.piece c.serve_piece.result (c.posts.ensures.others c.if-posts.false) c.serve_piece.ensures.finished c.serve_piece.ensures.served;
}
