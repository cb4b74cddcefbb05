-- What a call knows of its board and its seat.
use Rattle.std.proofs.Common.{◌≡◌, List, sym, ap, ◌∙◌}
use Rattle.std.specs.Prelude.{Option}
use Rattle.atomic_table.specs.Seated.{TableId}
use Rattle.atomic_table.specs.declared.shared.Seat.{Seat}
use Rattle.amr_phase.specs.Plans.{PlanOf}
use Rattle.amr_board.specs.declared.view.View.{View}
use Rattle.amr_board.specs.BoardOf.{BoardOf, IsSeatOf}

module _ {P : Type 0} where
  -- the seat is one of the table's, and knows the plan and the pieces that the table keeps
  pub record Knows (id : TableId) (plan : PlanOf) (pieces : List P) (seat : Seat (Option P) (View P)) : Type 0 where
    pub table : seat.table_id ≡ id
    pub same_plan : seat.me.0.plan ≡ plan
    pub same_pieces : seat.me.0.pieces ≡ pieces

  pub known : (id : TableId) (plan : PlanOf) (pieces : List P) (board : BoardOf P) (seat : Seat (Option P) (View P)) → ◌≡◌ {A = BoardOf P} (record { id = id; plan = plan; pieces = pieces }) board → IsSeatOf board seat → Knows id plan pieces seat
  known id plan pieces board seat is of_board =
      record {
        table = of_board.table ∙ sym (ap (λ (b : BoardOf P). b.id) is);
        same_plan = of_board.plan ∙ sym (ap (λ (b : BoardOf P). b.plan) is);
        same_pieces = of_board.pieces ∙ sym (ap (λ (b : BoardOf P). b.pieces) is);
      }
