-- What a kept worker is asked, and what it answers.
use Rattle.std.specs.Prelude.{ℕ, ◌≡◌, ◌<◌, true, false, length, Option}
use Rattle.std.specs.Arc.{arc_value}
use mathlib.Core.Option as lookup
use lib.ListN.{get_elem?}
use Rattle.amr_phase.specs.Plans.{PlanOf}
use Rattle.atomic_table.specs.declared.shared.Seat.{Seat}
use Rattle.amr_board.specs.declared.view.View.{View}
use Rattle.amr_board.specs.BoardOf.{BoardOf, IsSeatOf, view}
use Rattle.amr_board.specs.Views.{HoldsNone, IsHolding, current}
use Rattle.amr_workers.specs.declared.order.DrawOrder.{DrawOrder}

module _ {P : Type 0} where
  -- a seat with which tasks of this board may be drawn
  pub record MayDraw (board : BoardOf P) (seat : Seat (Option P) (View P)) : Type 0 where
    pub seat_of : IsSeatOf board seat
    pub none : HoldsNone (view seat)
    pub here : (view seat).past ≡ false

  -- a seat that found no task left, with the share that was lent
  pub record HasDrawn (board : BoardOf P) (lent : ℕ) (seat : Seat (Option P) (View P)) : Type 0 where
    pub seat_of : IsSeatOf board seat
    pub none : HoldsNone (view seat)
    pub past : (view seat).past ≡ true
    pub share : (view seat).share ≡ lent

  -- the job is ready for each piece of a board
  abbrev pub IsReady : (PlanOf → P → Type 0) → BoardOf P → Type 0
  IsReady ready board = (t : ℕ) (p : P) → get_elem? board.pieces t ≡ lookup.some p → ready board.plan p

  -- the gate admits a worker to each task of a board
  abbrev pub Admits : (ℕ → Type 0) → BoardOf P → Type 0
  Admits admits board = (task : ℕ) → task < length board.plan.tasks → admits task

  -- the seat has drawn the task, of which no post is made, and not taken it, and may draw further ones
  pub record HasDrawnOne (board : BoardOf P) (task : ℕ) (seat : Seat (Option P) (View P)) : Type 0 where
    pub seat_of : IsSeatOf board seat
    pub holding : IsHolding (view seat) task false
    pub unposted : ((current (view seat)).puts ≡ 0) × ((current (view seat)).adds ≡ 0)
    pub here : (view seat).past ≡ false
    pub below : task < length board.plan.tasks

  -- an order: the job is ready for the tasks, and the gate admits to them
  pub record MayAsk (ready : PlanOf → P → Type 0) (admits : ℕ → Type 0) (order : DrawOrder P) : Type 0 where
    pub drawn : HasDrawnOne (arc_value order.board) order.task order.seat
    pub ready_is : IsReady ready (arc_value order.board)
    pub admitted : Admits admits (arc_value order.board)

  -- this is the seat of the order, which found no task left
  abbrev pub Serves : DrawOrder P → Seat (Option P) (View P) → Type 0
  Serves order seat = HasDrawn (arc_value order.board) (view order.seat).share seat
