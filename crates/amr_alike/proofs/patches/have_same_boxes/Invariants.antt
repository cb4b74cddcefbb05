use Rattle.std.proofs.Common.{◌≡◌, map, take}
use Rattle.amr_patch.specs.Patches.{box}
use Rattle.amr_alike.proofs.patches.have_same_boxes.Given as goal

abbrev pub invariant-loop-k : goal.invariant-loop-k
invariant-loop-k l = take l.k (map box l.a) ≡ take l.k (map box l.b)
