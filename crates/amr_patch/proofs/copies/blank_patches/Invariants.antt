use Rattle.std.proofs.Common.{take}
use Rattle.amr_patch.specs.Pairwise.{Pairwise}
use Rattle.amr_patch.specs.Patches.{IsBlank}
use Rattle.amr_patch.proofs.copies.blank_patches.Given as goal

abbrev pub invariant-loop-b : goal.invariant-loop-b
invariant-loop-b l = Pairwise IsBlank (take l.b-index l.boxes) l.patches.items
