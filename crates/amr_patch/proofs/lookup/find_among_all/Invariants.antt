use Rattle.std.proofs.Common.{ℕ, ◌<◌}
use Rattle.std.specs.Prelude.{slice_index_or, IsTrue}
use Rattle.amr_box.specs.Cells.{holds}
use Rattle.amr_patch.specs.declared.patches.Patch.{Patch}
use Rattle.amr_patch.specs.Patches.{box}
use Rattle.amr_patch.proofs.lookup.find_among_all.Given as goal

-- none of the patches below k has the cell
abbrev pub invariant-loop-k : goal.invariant-loop-k
invariant-loop-k l = (i : ℕ) (d : Patch) → i < l.k → IsTrue (holds (box (slice_index_or l.patches i d)) l.c) → ⊥
