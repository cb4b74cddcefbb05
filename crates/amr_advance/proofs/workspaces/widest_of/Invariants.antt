use Rattle.std.proofs.Common.{ℕ, ◌<◌, ◌≤◌}
use Rattle.std.specs.Prelude.{slice_index_or}
use Rattle.amr_box.specs.Cells.{width}
use Rattle.amr_patch.specs.declared.patches.Patch.{Patch}
use Rattle.amr_patch.specs.Patches.{box}
use Rattle.amr_advance.proofs.workspaces.widest_of.Given as goal

-- no patch so far is wider
abbrev pub invariant-loop-patch : goal.invariant-loop-patch
invariant-loop-patch l = (j : ℕ) (q : Patch) → j < l.patch-index → width (box (slice_index_or l.patches j q)) ≤ l.widest
