use Rattle.std.proofs.Common.{take}
use Rattle.amr_patch.specs.Levels.{IsLevelCopy}
use Rattle.amr_patch.specs.Pairwise.{Pairwise}
use Rattle.amr_patch.proofs.level_copies.copied_levels.Given as goal

abbrev pub invariant-loop-level : goal.invariant-loop-level
invariant-loop-level l = Pairwise IsLevelCopy (take l.level-index l.levels) l.copies.items
