use Rattle.std.proofs.Common.{◌≡◌, ◌<◌, ◌+◌, ℕ, length}
use Rattle.std.specs.Prelude.{slice_index}
use Rattle.amr_phase.specs.Plans.{planned_face}
use Rattle.amr_board.specs.BoardOf.{IsSeatOf, view}
use Rattle.amr_lots.specs.Looks.{HasLookedOnly}
use Rattle.amr_lots.proofs.border.read_places.Given as goal

abbrev pub invariant-loop-k : goal.invariant-loop-k
invariant-loop-k l =
    IsSeatOf l.board l.seat × HasLookedOnly (view l.initial.seat) (view l.seat) × (length l.sizes ≡ length l.initial.sizes) × ((j : ℕ) → j < l.k → planned_face l.board.plan (slice_index l.border j) ≡ slice_index l.sizes j + 1)
