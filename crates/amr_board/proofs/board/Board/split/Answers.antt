use Rattle.std.proofs.Common.{arith}
use Rattle.amr_board.proofs.Allowing.{splits}
use Rattle.amr_board.proofs.Called.{known}
use Rattle.amr_board.proofs.board.Board.split.Goals as goal

pub split_seat-requires : goal.split_seat-requires
split_seat-requires g c =
    let k = known _ _ _ c.args.self.now c.args.seat.now c.self.view_is c.requires.seat in (
      k.table,
      (let n = c.self.invariant.1 in omega arith),
      splits g.P.Piece.becomes _ _ c.args.seat.now.id c.args.seat.now.me.0 k.same_plan k.same_pieces c.requires.seat.unspent c.requires.share,
    )
