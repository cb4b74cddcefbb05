use Rattle.std.proofs.Common.{◌≡◌, ℕ, ◌+◌, ◌%◌, ◌^◌, ◌<◌, sym, ap, subst, arith}
use Rattle.atomic_table.specs.Table.{Allows}
use Rattle.amr_phase.specs.Plans.{PlanOf, IsPlan}
use Rattle.amr_board.specs.declared.board.Shape.{Shape}
use Rattle.amr_board.specs.Views.{add_done}
use Rattle.amr_board.specs.Piece.{plan_of}
use Rattle.amr_board.specs.Rule.{Rule}
use Rattle.amr_board.proofs.Posting.{add_in_range}
use Rattle.amr_board.proofs.Allowing.{adds}
use Rattle.amr_board.proofs.Called.{known}
use Rattle.amr_board.proofs.board.Board.add.Goals as goal

pub fetch_add-requires : goal.fetch_add-requires
fetch_add-requires g c =
    let i = c.self.inside in
    let k = known _ _ _ c.args.self.now c.args.seat.now c.self.view_is c.requires.seat in
    let me = c.args.seat.now.me in
    let key = i.table.shared.key in
    let plan : PlanOf = plan_of g.P.Piece.puts g.P.Piece.adds key.shape.places key.shape.words key.pieces.value.items in
    let places = ap (λ (s : Shape). s.places) c.self.invariant.0 in
    let words = ap (λ (s : Shape). s.words) c.self.invariant.0 in
    let lt : c.args.word < key.shape.words
    = subst (λ (p : PlanOf). c.args.word < p.words) k.same_plan (add_in_range me.0 (subst IsPlan (sym k.same_plan) c.self.invariant.4) c.args.word c.args.amount c.requires.next) in (
      k.table,
      (let n = c.self.invariant.1 in omega arith),
      subst (λ (n : ℕ). Allows (Rule plan key.pieces.value.items g.P.Piece.becomes) i.table.shared.table_id.slots c.args.seat.now.id me (1 + n + c.args.word) (λ x. (x + c.args.amount) % 2 ^ 64) (λ x m. m ≡ (add_done me.0, me.1))) places
          (adds g.P.Piece.becomes plan key.pieces.value.items i.table.shared.table_id.slots c.args.seat.now.id me.0 me.1 c.args.word c.args.amount k.same_plan k.same_pieces c.requires.seat.unspent c.requires.next),
    )
