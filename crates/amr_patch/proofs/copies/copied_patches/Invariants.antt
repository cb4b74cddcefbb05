use Rattle.std.proofs.Common.{take}
use Rattle.amr_patch.specs.Pairwise.{Pairwise}
use Rattle.amr_patch.specs.Patches.{IsCopy}
use Rattle.amr_patch.proofs.copies.copied_patches.Given as goal

abbrev pub invariant-loop-p : goal.invariant-loop-p
invariant-loop-p l = Pairwise IsCopy (take l.p-index l.patches) l.copies.items
