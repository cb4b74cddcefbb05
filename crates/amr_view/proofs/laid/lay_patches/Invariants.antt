use Rattle.std.proofs.Common.{◌≤◌, drop, length}
use Rattle.amr_patch.specs.Patches.{masses_in}
use Rattle.amr_view.specs.Rows.{AreLaid}
use Rattle.amr_view.proofs.laid.lay_patches.Given as goal

-- the patches from `left` on are laid
abbrev pub invariant-loop-left : goal.invariant-loop-left
invariant-loop-left l = record {
  within : l.left ≤ length l.patches;
  laid : AreLaid (masses_in (drop l.left l.patches)) l.row l.initial.masses l.masses;
}

abbrev pub decreases-loop-left : goal.decreases-loop-left
decreases-loop-left l = l.left
