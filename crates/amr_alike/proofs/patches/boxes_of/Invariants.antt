use Rattle.std.proofs.Common.{◌≡◌, map, take}
use Rattle.amr_patch.specs.Patches.{box}
use Rattle.amr_alike.proofs.patches.boxes_of.Given as goal

abbrev pub invariant-loop-patch : goal.invariant-loop-patch
invariant-loop-patch l = l.boxes.items ≡ take l.patch-index (map box l.patches)
