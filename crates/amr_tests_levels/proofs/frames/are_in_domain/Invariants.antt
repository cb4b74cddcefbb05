use Rattle.std.proofs.Common.{ℕ, ◌<◌, slice_index_or, IsTrue}
use Rattle.amr_box.specs.declared.Cell.{Cell}
use Rattle.amr_box.specs.Cells.{holds}
use Rattle.amr_def.specs.Domain.{domain_of, in_domain}
use Rattle.amr_patch.specs.declared.patches.Patch.{Patch}
use Rattle.amr_patch.specs.Patches.{box}
use Rattle.amr_tests_levels.proofs.frames.are_in_domain.Given as goal

abbrev pub invariant-loop-patch : goal.invariant-loop-patch
invariant-loop-patch l = (i : ℕ) (d : Patch) → i < l.patch-index → (c : Cell) → IsTrue (holds (box (slice_index_or l.patches i d)) c) → IsTrue (in_domain (domain_of l.dom) c)
