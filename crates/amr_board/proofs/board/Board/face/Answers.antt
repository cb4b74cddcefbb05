use Rattle.std.proofs.Common.{◌<◌, sym, ap, subst, arith}
use Rattle.amr_board.specs.declared.board.Shape.{Shape}
use Rattle.amr_board.specs.BoardOf.{BoardOf}
use Rattle.amr_board.proofs.Allowing.{faces}
use Rattle.amr_board.proofs.Called.{known}
use Rattle.amr_board.proofs.board.Board.face.Goals as goal

pub load-found-requires : goal.load-found-requires
load-found-requires g c =
    let i = c.self.inside in
    let k = known _ _ _ c.args.self.now c.args.seat.now c.self.view_is c.requires.seat in
    let me = c.args.seat.now.me in
    let lt : c.args.place < i.table.shared.key.shape.places = subst (λ (b : BoardOf g.row.P.Denot). c.args.place < b.plan.places) (sym c.self.view_is) c.requires.place in (
      k.table,
      (let n = c.self.invariant.1 in let same = ap (λ (s : Shape). s.places) c.self.invariant.0 in omega arith),
      faces g.P.Piece.becomes _ _ i.table.shared.table_id.slots c.args.seat.now.id me.0 me.1 c.args.place k.same_plan k.same_pieces c.requires.seat.unspent lt,
    )
