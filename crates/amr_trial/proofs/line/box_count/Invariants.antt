use Rattle.std.proofs.Common.{◌≡◌, map, take}
use Rattle.std.specs.List.{sum_by}
use Rattle.amr_patch.specs.Levels.{level_of}
use Rattle.amr_trial.proofs.Boxes.{boxes_in}
use Rattle.amr_trial.proofs.line.box_count.Given as goal

-- the boxes of the levels so far are counted
abbrev pub invariant-loop-level : goal.invariant-loop-level
invariant-loop-level l = l.count ≡ sum_by boxes_in (take l.level-index (map level_of l.levels))
