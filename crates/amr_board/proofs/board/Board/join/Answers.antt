use Rattle.std.proofs.Common.{cond, [], ◌∷◌, None, ap, ◌∙◌, arith}
use Rattle.amr_board.specs.Views.{current}
use Rattle.amr_board.proofs.Allowing.{joins}
use Rattle.amr_board.proofs.Called.{known}
use Rattle.amr_board.proofs.board.Board.join.Goals as goal

pub join_seat-requires : goal.join_seat-requires
join_seat-requires g c =
    let k = known _ _ _ c.args.self.now c.args.seat.now c.self.view_is c.requires.seat in
    let other = known _ _ _ c.args.self.now c.args.other c.self.view_is c.requires.other in
    let w = c.args.other.me.0 in (
      k.table,
      other.table,
      c.requires.other.slots ∙ ap (λ b. cond b [] (cond (current w).taken (((current w).task, None) ∷ []) [])) c.requires.other_none,
      (let n = c.self.invariant.1 in omega arith),
      joins g.P.Piece.becomes _ _ c.args.seat.now.id c.args.other.id c.args.seat.now.me.0 w k.same_plan k.same_pieces c.requires.seat.unspent c.requires.other.unspent c.requires.other_none,
    )
