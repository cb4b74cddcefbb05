use Rattle.std.proofs.Common.{◌≡◌, ◌<◌, ◌+◌, ℕ, length}
use Rattle.std.specs.Prelude.{slice_index}
use Rattle.amr_board.specs.Ended.{face_of}
use Rattle.amr_lots.proofs.finished.read_places.Given as goal

-- the places before this one were read
abbrev pub invariant-loop-k : goal.invariant-loop-k
invariant-loop-k l = (length l.sizes ≡ length l.initial.sizes) × ((j : ℕ) → j < l.k → face_of l.ended (slice_index l.border j) ≡ slice_index l.sizes j + 1)
