use Rattle.std.proofs.Common.{◌≡◌, ◌+◌, ◌≤◌, length}
use Rattle.std.specs.Prelude.{vec_capacity}
use Rattle.amr_layout.specs.PartFlows.{AreNumbersOf}
use Rattle.amr_layout.proofs.PartFlows.{ArePartFlows}
use Rattle.amr_layout.proofs.parts.flows_of_part.Given as goal

-- the first patches have their flows
abbrev pub invariant-loop-i : goal.invariant-loop-i
invariant-loop-i l = record {
  room : l.count + 1 ≤ vec_capacity l.bounds;
  same_count : length l.numbers.items ≡ l.many;
  numbers : AreNumbersOf l.words.items l.numbers.items;
  flows : ArePartFlows l.level l.first l.words.items l.i (record { flows = l.flows; bounds = l.bounds });
}
