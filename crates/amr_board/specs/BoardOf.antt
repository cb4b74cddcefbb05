-- A board and a seat as contracts see them.
use Rattle.std.specs.Prelude.{◌≡◌, ◌∷◌, ℕ, List, [], false, Option, None, if◌then◌else◌}
use Rattle.atomic_table.specs.Seated.{TableId}
use Rattle.atomic_table.specs.declared.shared.Seat.{Seat}
use Rattle.amr_phase.specs.Plans.{PlanOf}
use Rattle.amr_board.specs.declared.view.View.{View}
use Rattle.amr_board.specs.declared.view.Deed.{Deed}
use Rattle.amr_board.specs.Views.{current, HasDone}

-- which board it is, its plan, and its pieces as they were handed in
pub record BoardOf (P : Type 0) : Type 0 where
  pub id : TableId
  pub plan : PlanOf
  pub pieces : List P

module _ {P : Type 0} where
  -- what a seat knows
  abbrev pub view : Seat (Option P) (View P) → View P
  view seat = seat.me.0

  -- the slot that is out with the seat, between take and give
  abbrev pub carried : View P → List (ℕ × Option P)
  carried v = if (current v).given then [] else (if (current v).taken then ((current v).task, None) ∷ [] else [])

  -- a seat of this board that was not joined into another
  pub record IsSeatOf (board : BoardOf P) (seat : Seat (Option P) (View P)) : Type 0 where
    pub table : seat.table_id ≡ board.id
    pub plan : seat.me.0.plan ≡ board.plan
    pub pieces : seat.me.0.pieces ≡ board.pieces
    pub unspent : seat.me.0.spent ≡ false
    pub slots : seat.me.1 ≡ carried seat.me.0

  -- the call was this one event of the seat, the worker of its number
  abbrev pub IsEvent : Deed → Seat (Option P) (View P) → Seat (Option P) (View P) → Type 0
  IsEvent d old new = (new.id ≡ old.id) × HasDone d (view old) (view new)

  -- the call was no event
  abbrev pub IsNoEvent : Seat (Option P) (View P) → Seat (Option P) (View P) → Type 0
  IsNoEvent old new = (new.id ≡ old.id) × ((view new).deeds ≡ (view old).deeds)
