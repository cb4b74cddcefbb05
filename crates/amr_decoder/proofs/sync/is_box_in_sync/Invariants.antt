use Rattle.std.proofs.Common.{ℕ, ◌<◌}
use Rattle.amr_box.specs.Cells.{width}
use Rattle.amr_decoder.specs.Synced.{IsSumAt}
use Rattle.amr_decoder.proofs.sync.is_box_in_sync.Given as goal

-- the cells of the rows before j have
abbrev pub invariant-loop-j : goal.invariant-loop-j
invariant-loop-j l = (k : ℕ) → k < l.j → (i : ℕ) → i < width l.parents → IsSumAt l.coarse l.fine l.parents k i
