use Rattle.std.proofs.Common.{take}
use Rattle.amr_box.specs.Cells.{has_child_where}
use Rattle.amr_def.specs.State.{children_mass}
use Rattle.amr_patch.specs.Patches.{in_patches, masses_in}
use Rattle.amr_transfer.specs.Given.{IsGiven}
use Rattle.amr_transfer.proofs.covered.cover_patch.Given as goal

-- the cells of which the fine patches so far have children have their sums
abbrev pub invariant-loop-k : goal.invariant-loop-k
invariant-loop-k l = IsGiven (has_child_where (in_patches (take l.k l.fine))) (children_mass (masses_in l.fine)) l.initial.patch l.patch
