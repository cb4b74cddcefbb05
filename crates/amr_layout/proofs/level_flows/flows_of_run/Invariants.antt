use Rattle.std.proofs.Common.{◌≡◌, ◌+◌, map, take}
use Rattle.std.specs.List.{range_with_len}
use Rattle.amr_patch.specs.Gaps.{IsGap}
use Rattle.amr_layout.specs.Arounds.{around_of}
use Rattle.amr_layout.specs.LevelFlowLists.{flows_in_first, level_flows}
use Rattle.amr_layout.proofs.level_flows.flows_of_run.Given as goal

-- the flows of the first patches stand in the list, and the bounds up to theirs
abbrev pub invariant-loop-i : goal.invariant-loop-i
invariant-loop-i l = record {
  gap : IsGap l.s.patches.now l.near.level.gap;
  flows : l.flows.items ≡ level_flows (around_of l.s) (take l.i l.run);
  bounds : l.bounds.items ≡ map (flows_in_first (around_of l.s) l.run) (range_with_len 0 (l.i + 1));
}
