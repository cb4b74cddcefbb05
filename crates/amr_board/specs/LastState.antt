-- What a closed board holds, by the last state that the rule allows.
use Rattle.std.specs.Prelude.{ℕ, ◌≡◌, Option, length}
use mathlib.Core.Option as lookup
use lib.ListN.{get_elem?}
use Rattle.atomic_table.specs.Table.{State}
use Rattle.atomic_table.specs.declared.shared.Seat.{Seat}
use Rattle.amr_board.specs.declared.view.View.{View}
use Rattle.amr_board.specs.BoardOf.{BoardOf, view}
use Rattle.amr_board.specs.Ended.{EndedOf}
use Rattle.amr_board.specs.Rule.{Rule}

-- Of a board that was closed with this seat: its words and the slots at home are those of a state that meets the rule, in which
-- the seat has its view
pub record IsEndOf {P : Type 0} (becomes : P → P → Type 0) (board : BoardOf P) (seat : Seat (Option P) (View P)) (ended : EndedOf P) : Type 0 where
  pub state : State (Option P) (View P)
  pub rule : Rule board.plan board.pieces becomes state
  pub seen : get_elem? state.views seat.id ≡ lookup.some (view seat)
  pub places : ended.places ≡ board.plan.places
  pub registers : ended.registers ≡ board.plan.words
  pub words : ended.words ≡ state.words
  pub count : length ended.pieces ≡ length board.pieces
  pub slots : (t : ℕ) (piece : Option P) → get_elem? state.homes t ≡ lookup.some (lookup.some piece) → get_elem? ended.pieces t ≡ lookup.some piece
