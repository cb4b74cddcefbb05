use Rattle.std.proofs.Common.{Some, ◌∙◌}
use Rattle.amr_board.proofs.Closing.{total_is, face_is, registers_end, faces_end, slots_end}
use Rattle.amr_board.proofs.board.Board.close.Goals as goal

pub returns : goal.returns
returns g c =
    let board = c.args.self in
    let seat = c.args.seat in
    let becomes = g.P.Piece.becomes in
    let end = c.end.ensures in
    let need = c.requires in
    record {
      shape = (end.places, end.registers);
      totals = λ w lt. total_is becomes board seat c.end.result end w ∙ registers_end board.plan board.pieces becomes seat.id seat.me.0 end.state end.rule end.seen need.alone need.past need.none w lt;
      faces = λ p lt. face_is becomes board seat c.end.result end p ∙ faces_end board.plan board.pieces becomes seat.id seat.me.0 end.state end.rule end.seen need.alone need.past need.none p lt;
      pieces = λ t p at.
          (let last = slots_end board.plan board.pieces becomes seat.id seat.me.0 end.state end.rule end.seen need.alone need.past need.none t p at in
          (last.0, last.1, end.slots t (Some last.0) last.2));
    }
