use Rattle.std.proofs.Common.{◌∙◌, sym, ap}
use Rattle.amr_board.specs.declared.view.View.{View}
use Rattle.amr_lots.specs.declared.lot.Work.{Work}
use Rattle.amr_advance.proofs.Pieces.{lots_of, tasks}
use Rattle.amr_advance.proofs.phases.give_back.Goals as goal

pub dismiss-ended-requires-clause-seat : goal.dismiss-ended-requires-clause-seat
dismiss-ended-requires-clause-seat c = c.requires.opened.6.seat_of

pub dismiss-ended-requires-clause-undrawn : goal.dismiss-ended-requires-clause-undrawn
dismiss-ended-requires-clause-undrawn c = ap (λ (v : View Work). v.tasks) c.requires.opened.6.first

pub dismiss-ended-requires-clause-alone : goal.dismiss-ended-requires-clause-alone
dismiss-ended-requires-clause-alone c = ap (λ (v : View Work). v.share) c.requires.opened.6.first

pub returns : goal.returns
returns c = λ b l duty p shape xs opened. c.hand_back.ensures c.args.board.pieces c.dismiss-ended.ensures.pieces (sym (c.tasks-count.ensures ∙ tasks shape c.args.board.pieces c.args.board.plan opened.plan)) ∙ lots_of b l duty xs c.args.board.pieces opened.are
