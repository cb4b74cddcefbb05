use Rattle.std.proofs.Common.{◌≡◌, ℕ, List, ◌∷◌, length, Some, refl, sym, ap, ◌∙◌, subst, arith}
use Rattle.std.specs.Prelude.{Option}
use lib.ListN.{get_elem?}
use Rattle.atomic_table.specs.Table.{Allows, Me, rest}
use Rattle.amr_phase.specs.Plans.{PlanOf, puts_of, adds_of}
use Rattle.amr_board.specs.declared.view.View.{View}
use Rattle.amr_board.specs.Views.{current, giving}
use Rattle.amr_board.specs.Piece.{plan_of}
use Rattle.amr_board.specs.Rule.{Rule}
use Rattle.amr_board.specs.Steps.{MayGive}
use Rattle.amr_board.proofs.Allowing.{gives_as}
use Rattle.amr_board.proofs.Called.{known}
use Rattle.amr_board.proofs.board.Board.give.Goals as goal

pub load-requires : goal.load-requires
load-requires g c =
    let i = c.self.inside in
    let k = known _ _ _ c.args.self.now c.args.seat.now c.self.view_is c.requires.seat in
    let key = i.table.shared.key in
    let plan : PlanOf = plan_of g.P.Piece.puts g.P.Piece.adds key.shape.places key.shape.words key.pieces.value.items in
    let me = c.args.seat.now.me in
    let e = c.exchange.ensures in
    let v = me.0 in
    let cs = rest me.1 in
    let held = c.requires.holding in
    let here : c.exchange.new.seat.me ≡ (v, ((current v).task, Some c.args.piece) ∷ cs) = e.3 ∙ ap (λ (n : ℕ). (v, (n, Some c.args.piece) ∷ cs)) (sym held.is_task) in
    let may : MayGive g.P.Piece.becomes v c.args.piece
    = record {
      holding = record { held = held.held; is_task = refl; ungiven = held.ungiven; is_taken = held.is_taken };
      puts = c.requires.puts ∙ (ap (λ (p : PlanOf). length (puts_of p c.args.task)) (sym c.requires.seat.plan) ∙ ap (λ (n : ℕ). length (puts_of v.plan n)) (sym held.is_task));
      adds = c.requires.adds ∙ (ap (λ (p : PlanOf). length (adds_of p c.args.task)) (sym c.requires.seat.plan) ∙ ap (λ (n : ℕ). length (adds_of v.plan n)) (sym held.is_task));
      becomes_it = λ p is. c.requires.piece p (ap (λ (ps : List g.row.P.Denot). get_elem? ps c.args.task) (sym c.requires.seat.pieces) ∙ (ap (λ (n : ℕ). get_elem? v.pieces n) (sym held.is_task) ∙ is));
    } in (
      e.0 ∙ k.table,
      (let n = c.self.invariant.1 in omega arith),
      subst (λ (id : ℕ). Allows (Rule plan key.pieces.value.items g.P.Piece.becomes) i.table.shared.table_id.slots id c.exchange.new.seat.me 0 (λ n. n) (λ n w. w ≡ (giving c.exchange.new.seat.me.0, rest c.exchange.new.seat.me.1))) (sym e.1)
          (subst (λ (m : Me (Option g.row.P.Denot) (View g.row.P.Denot)). Allows (Rule plan key.pieces.value.items g.P.Piece.becomes) i.table.shared.table_id.slots c.args.seat.now.id m 0 (λ n. n) (λ n w. w ≡ (giving m.0, rest m.1))) (sym here)
          (gives_as g.P.Piece.becomes plan key.pieces.value.items i.table.shared.table_id.slots c.args.seat.now.id v cs c.args.piece k.same_plan k.same_pieces c.requires.seat.unspent may)),
    )
