use Rattle.std.proofs.Common.{ℕ, ◌<◌, slice_index_or, IsTrue}
use Rattle.amr_box.specs.declared.Cell.{Cell}
use Rattle.amr_box.specs.Cells.{holds}
use Rattle.amr_patch.specs.declared.patches.Patch.{Patch}
use Rattle.amr_patch.specs.Patches.{box}
use Rattle.amr_tests_levels.proofs.frames.meets_earlier.Given as goal

abbrev pub invariant-loop-j : goal.invariant-loop-j
invariant-loop-j l = (i : ℕ) (d : Patch) → i < l.j → (c : Cell) → IsTrue (holds (box (slice_index_or l.patches i d)) c) → IsTrue (holds (box (slice_index_or l.patches l.k d)) c) → ⊥
