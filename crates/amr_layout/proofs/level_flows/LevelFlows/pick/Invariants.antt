use Rattle.std.proofs.Common.{◌≡◌, ◌+◌, map, take}
use Rattle.std.specs.List.{range_with_len}
use Rattle.amr_layout.specs.LevelFlowLists.{picked_flows, picked_in_first}
use Rattle.amr_layout.proofs.level_flows.LevelFlows.pick.Given as goal

-- the flows of the first patches stand in the list, and the bounds up to theirs
abbrev pub invariant-loop-i : goal.invariant-loop-i
invariant-loop-i l = record {
  flows : l.flows.items ≡ picked_flows l.self (take l.i l.numbers);
  bounds : l.bounds.items ≡ map (picked_in_first l.self l.numbers) (range_with_len 0 (l.i + 1));
}
