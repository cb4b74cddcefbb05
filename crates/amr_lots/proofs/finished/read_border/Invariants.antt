use Rattle.std.proofs.Common.{◌≡◌, ◌<◌, ◌+◌, ℕ, length, take}
use Rattle.std.specs.Prelude.{slice_index}
use Rattle.amr_board.specs.Ended.{face_of}
use Rattle.amr_lots.specs.Works.{places_read}
use Rattle.amr_lots.proofs.finished.read_border.Given as goal

-- the places of the patches before this one were read
abbrev pub invariant-loop-k : goal.invariant-loop-k
invariant-loop-k l = record {
  count : length l.sizes ≡ length l.initial.sizes;
  done : l.done ≡ length (places_read (take l.k l.layouts));
  read : (j : ℕ) → j < l.done → face_of l.ended (slice_index (places_read l.layouts) j) ≡ slice_index l.sizes j + 1;
}
