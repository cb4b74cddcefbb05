use Rattle.std.proofs.Common.{◌<◌, sym, ap, subst, arith}
use Rattle.amr_phase.specs.Plans.{PlanOf, IsPlan}
use Rattle.amr_board.specs.declared.board.Shape.{Shape}
use Rattle.amr_board.proofs.Posting.{put_in_range}
use Rattle.amr_board.proofs.Allowing.{puts}
use Rattle.amr_board.proofs.Called.{known}
use Rattle.amr_board.proofs.board.Board.put.Goals as goal

pub store-requires : goal.store-requires
store-requires g c =
    let i = c.self.inside in
    let k = known _ _ _ c.args.self.now c.args.seat.now c.self.view_is c.requires.seat in
    let me = c.args.seat.now.me in
    let lt : c.args.place < i.table.shared.key.shape.places
    = subst (λ (p : PlanOf). c.args.place < p.places) k.same_plan (put_in_range me.0 (subst IsPlan (sym k.same_plan) c.self.invariant.4) c.args.place c.args.amount c.requires.next) in (
      k.table,
      (let n = c.self.invariant.1 in let same = ap (λ (s : Shape). s.places) c.self.invariant.0 in omega arith),
      puts g.P.Piece.becomes _ _ i.table.shared.table_id.slots c.args.seat.now.id me.0 me.1 c.args.place c.args.amount k.same_plan k.same_pieces c.requires.seat.unspent c.requires.next,
    )
