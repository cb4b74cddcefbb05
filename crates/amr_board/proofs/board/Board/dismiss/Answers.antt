use Rattle.std.proofs.Common.{Some, ◌∙◌}
use Rattle.amr_board.proofs.SlotLists.{slots_are}
use Rattle.amr_board.proofs.Closing.{total_is, face_is, registers_start, faces_start, slots_start}
use Rattle.amr_board.proofs.board.Board.dismiss.Goals as goal

pub returns : goal.returns
returns g c =
    let board = c.args.self in
    let seat = c.args.seat in
    let becomes = g.P.Piece.becomes in
    let end = c.end.ensures in
    let need = c.requires in
    record {
      shape = (end.places, end.registers);
      totals = λ w lt. total_is becomes board seat c.end.result end w ∙ registers_start board.plan board.pieces becomes seat.id seat.me.0 end.state end.rule end.seen need.alone need.undrawn w lt;
      faces = λ p lt. face_is becomes board seat c.end.result end p ∙ faces_start board.plan board.pieces becomes seat.id seat.me.0 end.state end.rule end.seen need.alone need.undrawn p lt;
      pieces = slots_are c.end.result.pieces board.pieces end.count
          (λ t p at. end.slots t (Some p) (slots_start board.plan board.pieces becomes seat.id seat.me.0 end.state end.rule end.seen need.alone need.undrawn t p at));
    }
