use Rattle.std.proofs.Common.{◌≡◌, ℕ, List, ◌∷◌, Some, refl, sym, ap, ◌∙◌, subst, arith}
use Rattle.std.specs.Prelude.{Option}
use mathlib.Core.Option as lookup
use lib.ListN.{get_elem?}
use Rattle.atomic_table.specs.Table.{Me, rest}
use Rattle.amr_phase.specs.Plans.{puts_of, adds_of}
use Rattle.amr_board.specs.declared.view.View.{View}
use Rattle.amr_board.specs.BoardOf.{BoardOf}
use Rattle.amr_board.specs.Views.{current}
use Rattle.amr_board.proofs.Allowing.{takes_as}
use Rattle.amr_board.proofs.Called.{known}
use Rattle.amr_board.proofs.Carried.{carries, head_is}
use Rattle.amr_board.proofs.Planning.{posts_of}
use Rattle.amr_board.proofs.board.Board.take.Goals as goal

pub load-requires : goal.load-requires
load-requires g c =
    let i = c.self.inside in
    let k = known _ _ _ c.args.self.now c.args.seat.now c.self.view_is c.requires.seat in
    let me = c.args.seat.now.me in
    let holds = c.requires.holding in (
      k.table,
      (let n = c.self.invariant.1 in omega arith),
      takes_as g.P.Piece.becomes _ _ i.table.shared.table_id.slots c.args.seat.now.id me.0 me.1 k.same_plan k.same_pieces c.requires.seat.unspent (record { held = holds.held; is_task = refl; ungiven = holds.ungiven; is_taken = holds.is_taken }),
    )

pub exchange-piece-requires : goal.exchange-piece-requires
exchange-piece-requires g c =
    let k = known _ _ _ c.args.self.now c.args.seat.now c.self.view_is c.requires.seat in
    let me = c.args.seat.now.me in
    let e = c.load.ensures in
    (e.0 ∙ k.table, (Some e.2.0, carries c.load.new.seat.me.1 me.1 c.args.task (current me.0).task (Some e.2.0) (ap (λ (m : Me (Option g.row.P.Denot) (View g.row.P.Denot)). m.1) e.2.2) c.requires.holding.is_task))

pub returns-clause-posts : goal.returns-clause-posts
returns-clause-posts g c =
    let key = c.self.inside.table.shared.key in
    let k = known _ _ _ c.args.self.now c.args.seat.now c.self.view_is c.requires.seat in
    let me = c.args.seat.now.me in
    let e = c.load.ensures in
    let x : g.row.P.Denot = e.2.0 in
    let out : c.load.new.seat.me.1 ≡ (c.args.task, Some x) ∷ rest c.load.new.seat.me.1 = carries c.load.new.seat.me.1 me.1 c.args.task (current me.0).task (Some x) (ap (λ (m : Me (Option g.row.P.Denot) (View g.row.P.Denot)). m.1) e.2.2) c.requires.holding.is_task in
    let is : x ≡ c.unwrap.result = head_is c.load.new.seat.me.1 (rest c.load.new.seat.me.1) (rest c.load.new.seat.me.1) c.args.task x c.unwrap.result c.exchange-piece.result out c.exchange-piece.ensures.2 c.unwrap.ensures in
    let at : get_elem? key.pieces.value.items c.args.task ≡ lookup.some c.unwrap.result
    = ap (λ (ps : List g.row.P.Denot). get_elem? ps c.args.task) (sym k.same_pieces) ∙ (ap (λ (n : ℕ). get_elem? me.0.pieces n) (sym c.requires.holding.is_task) ∙ (e.2.1 ∙ ap lookup.some is)) in
    let posts = posts_of g.P.Piece.puts g.P.Piece.adds key.shape.places key.shape.words key.pieces.value.items c.args.task c.unwrap.result at in
    subst (λ (b : BoardOf g.row.P.Denot). (puts_of b.plan c.args.task ≡ g.P.Piece.puts c.unwrap.result) × (adds_of b.plan c.args.task ≡ g.P.Piece.adds c.unwrap.result)) c.self.view_is posts
