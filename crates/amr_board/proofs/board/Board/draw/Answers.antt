use Rattle.std.proofs.Common.{arith}
use Rattle.amr_board.proofs.Allowing.{draws}
use Rattle.amr_board.proofs.Called.{known}
use Rattle.amr_board.proofs.board.Board.draw.Goals as goal

pub fetch_add-found-requires : goal.fetch_add-found-requires
fetch_add-found-requires g c =
    let i = c.self.inside in
    let k = known _ _ _ c.args.self.now c.args.seat.now c.self.view_is c.requires.seat in
    let me = c.args.seat.now.me in (
      k.table,
      (let n = c.self.invariant.1 in omega arith),
      draws g.P.Piece.becomes _ _ i.table.shared.table_id.slots c.args.seat.now.id me.0 me.1 k.same_plan k.same_pieces c.requires.seat.unspent c.requires.here c.requires.none,
    )
