use Rattle.std.proofs.Common.{◌≡◌, map, take}
use Rattle.amr_patch.specs.Patches.{box}
use Rattle.amr_patch.proofs.gaps.starts_of.Given as goal

-- the columns and the rows of the first patches
abbrev pub invariant-loop-patch : goal.invariant-loop-patch
invariant-loop-patch l = record {
  columns : l.columns.items ≡ map (λ q. (box q).lo.x) (take l.patch-index l.patches);
  rows : l.rows.items ≡ map (λ q. (box q).lo.y) (take l.patch-index l.patches);
}
