-- The phases of a level's lots: the pieces of their tasks, and what a closed board has of them.
use Rattle.std.specs.Prelude.{◌≡◌, ℕ, ◌<◌, ◌≤◌, List, length, slice_index, slice_index_or}
use Rattle.std.specs.declared.option.Option.{Option}
use Rattle.std.specs.declared.option.Option.TheVariants.{Some}
use mathlib.Core.Option as lookup
use lib.ListN.{get_elem?}
use Rattle.std.specs.Global.{Box}
use Rattle.std.specs.List.{All}
use Rattle.amr_def.specs.declared.problem.Problem.{Problem}
use Rattle.amr_patch.specs.declared.levels.Level.{Level}
use Rattle.amr_patch.specs.declared.patches.Patch.{Patch}
use Rattle.amr_ghost.specs.Frames.{old_masses}
use Rattle.atomic_table.specs.declared.shared.Seat.{Seat}
use Rattle.amr_phase.specs.Plans.{IsPlan, PlanOf, planned_face, planned_total}
use Rattle.amr_board.specs.declared.board.Shape.{Shape}
use Rattle.amr_board.specs.declared.view.View.{View}
use Rattle.amr_board.specs.BoardOf.{BoardOf, IsSeatOf, view}
use Rattle.amr_board.specs.Views.{first_view}
use Rattle.amr_board.specs.Ended.{EndedOf, face_of, total_of}
use Rattle.amr_board.specs.Piece.{plan_of}
use Rattle.amr_lots.specs.declared.lot.StepBasis.{StepBasis}
use Rattle.amr_lots.specs.declared.lot.Duty.{Duty}
use Rattle.amr_lots.specs.declared.lot.Duty.TheVariants.{Step}
use Rattle.amr_lots.specs.declared.lot.Lot.{Lot}
use Rattle.amr_lots.specs.declared.lot.LotStage.TheVariants.{Finished, Raw}
use Rattle.amr_lots.specs.declared.lot.Work.{Work}
use Rattle.amr_lots.specs.Ready.{MayBegin, MayComplete}
use Rattle.amr_lots.specs.Works.{StandsFor, adds_of_work, coarser_of, puts_of_work}
use Rattle.amr_advance.specs.declared.lots.Lots.{Lots}

-- what a phase is worked out from: a problem, the patches of a level, and the next coarser level, where there is one
pub record IsBasisOf (p : Problem) (qs : List Patch) (old : Option Level) (b : StepBasis) : Type 0 where
  pub problem : b.problem.value ≡ p
  pub patches : b.patches.value.items ≡ qs
  pub coarser : coarser_of b ≡ old_masses old

-- ---- pieces

-- the raw piece of a task, whose lot this is
pub record IsPiece (b : StepBasis) (l : ℕ) (duty : Duty) (task : ℕ) (x : Box Lot) (w : Work) : Type 0 where
  pub of_task : w.task ≡ task
  pub of_level : w.level ≡ l
  pub of_duty : w.duty ≡ duty
  pub raw : w.stage ≡ Raw
  pub of_lot : w.lot ≡ x
  pub of_basis : w.basis.value ≡ b

-- one for each lot, by number
pub record ArePieces (b : StepBasis) (l : ℕ) (duty : Duty) (xs : List (Box Lot)) (ws : List Work) : Type 0 where
  pub count : length ws ≡ length xs
  pub each : (k : ℕ) (x : Box Lot) (w : Work) → k < length xs → IsPiece b l duty k (slice_index_or xs k x) (slice_index_or ws k w)

-- the plan of their posts
abbrev pub planned : Shape → List Work → PlanOf
planned shape ws = plan_of puts_of_work adds_of_work shape.places shape.words ws

-- pieces that may be put on a board of so many places and words
pub record MayBeRun (p : Problem) (shape : Shape) (ws : List Work) : Type 0 where
  pub plan : IsPlan (planned shape ws)
  pub begin : All (MayBegin p (planned shape ws)) ws

-- a board of a phase of lots, before its first task is drawn, and its only seat
pub record IsOpened (b : StepBasis) (l : ℕ) (duty : Duty) (p : Problem) (shape : Shape) (xs : List (Box Lot)) (board : BoardOf Work)
    (seat : Seat (Option Work) (View Work)) : Type 0 where
  pub are : ArePieces b l duty xs board.pieces
  pub plan : board.plan ≡ planned shape board.pieces
  pub may : MayBeRun p shape board.pieces
  pub seat_of : IsSeatOf board seat
  pub first : view seat ≡ first_view board.plan board.pieces

-- ---- a closed board

-- the totals and faces of the plan
pub record HasWords (plan : PlanOf) (o : EndedOf Work) : Type 0 where
  pub places : o.places ≡ plan.places
  pub registers : o.registers ≡ plan.words
  pub totals : (w : ℕ) → w < plan.words → total_of o w ≡ planned_total plan w
  pub faces : (p : ℕ) → p < plan.places → face_of o p ≡ planned_face plan p

-- the piece of a task stands on the board
abbrev pub IsPieceOf : EndedOf Work → ℕ → Work → Type 0
IsPieceOf o t w = get_elem? o.pieces t ≡ lookup.some (Some w)

-- for this task a piece that stands for what its own stood for
pub record HasPiece (o : EndedOf Work) (ws : List Work) (t : ℕ) (w : Work) : Type 0 where
  pub piece : Work
  pub given : IsPieceOf o t piece
  pub stands : StandsFor (slice_index_or ws t w) piece

-- for each task, from this one on
abbrev pub HasPieces : EndedOf Work → List Work → ℕ → Type 0
HasPieces o ws from = (t : ℕ) (w : Work) → from ≤ t → t < length ws → HasPiece o ws t w

-- a phase of lots was run on it, in pieces that may be so
pub record HasRun (b : StepBasis) (l : ℕ) (duty : Duty) (p : Problem) (shape : Shape) (xs : List (Box Lot)) (o : EndedOf Work) : Type 0 where
  pub raw : List Work
  pub are : ArePieces b l duty xs raw
  pub may : MayBeRun p shape raw
  pub words : HasWords (planned shape raw) o
  pub pieces : HasPieces o raw 0

-- ---- what is collected

-- the piece of a task is finished, or can be by what stands at the places
pub record MayCollect (p : Problem) (o : EndedOf Work) (t : ℕ) : Type 0 where
  pub piece : Work
  pub given : IsPieceOf o t piece
  pub complete : MayComplete p o piece

-- the lot of a piece that was finished
pub record IsDone (w : Work) (x : Box Lot) : Type 0 where
  pub piece : Work
  pub finished : piece.stage ≡ Finished
  pub stands : StandsFor w piece
  pub lot : x ≡ piece.lot

-- the lot of a piece of a closed board, which was finished
pub record IsCollected (w : Work) (x : Box Lot) : Type 0 where
  pub piece : Work
  pub finished : piece.stage ≡ Finished
  pub stands : (raw : Work) → StandsFor raw w → StandsFor raw piece
  pub lot : x ≡ piece.lot

pub record AreCollected (o : EndedOf Work) (many : ℕ) (xs : List (Box Lot)) : Type 0 where
  pub count : length xs ≡ many
  pub each : (t : ℕ) (w : Work) (x : Box Lot) → t < many → IsPieceOf o t w → IsCollected w (slice_index_or xs t x)

-- a phase of lots was run on a board, which was closed and gave them back. What is left of it has its words
pub record HaveRun (b : StepBasis) (l : ℕ) (duty : Duty) (p : Problem) (shape : Shape) (xs ys : List (Box Lot)) (left : EndedOf Work) : Type 0 where
  pub closed : EndedOf Work
  pub run : HasRun b l duty p shape xs closed
  pub collected : AreCollected closed (length xs) ys
  pub registers : left.registers ≡ closed.registers
  pub totals : (word : ℕ) → total_of left word ≡ total_of closed word

-- a lot has as many patches as another, and as many lists of register cells
pub record HasAsMany (a b : Box Lot) : Type 0 where
  pub patches : length b.value.patches.items ≡ length a.value.patches.items
  pub edges : length b.value.edges.items ≡ length a.value.edges.items

-- the lots xs made their step, and the totals are those of what they posted
pub record HaveMadeStep (b : StepBasis) (l : ℕ) (xs : List (Box Lot)) (old new : Lots) : Type 0 where
  pub raw : List Work
  pub are : ArePieces b l Step xs raw
  pub count : length new.lots.items ≡ length xs
  pub lots : (k : ℕ) (w : Work) (x : Box Lot) → k < length xs → IsDone (slice_index_or raw k w) (slice_index_or new.lots.items k x)
  pub words : length new.totals.items ≡ length old.totals.items
  pub totals : (word : ℕ) → word < old.shape.words → slice_index new.totals.items word ≡ planned_total (planned old.shape raw) word
