use Rattle.std.proofs.Common.{◌≡◌, ◌<◌, ◌+◌, ℕ, length, take}
use Rattle.std.specs.Prelude.{slice_index}
use Rattle.amr_phase.specs.Plans.{planned_face}
use Rattle.amr_board.specs.BoardOf.{IsSeatOf, view}
use Rattle.amr_lots.specs.Looks.{HasLookedOnly}
use Rattle.amr_lots.specs.Works.{places_read}
use Rattle.amr_lots.proofs.border.read_border.Given as goal

-- the places of the patches before this one were read
abbrev pub invariant-loop-k : goal.invariant-loop-k
invariant-loop-k l = record {
  seat : IsSeatOf l.board l.seat;
  looked : HasLookedOnly (view l.initial.seat) (view l.seat);
  count : length l.sizes ≡ length l.initial.sizes;
  done : l.done ≡ length (places_read (take l.k l.layouts));
  read : (j : ℕ) → j < l.done → planned_face l.board.plan (slice_index (places_read l.layouts) j) ≡ slice_index l.sizes j + 1;
}
