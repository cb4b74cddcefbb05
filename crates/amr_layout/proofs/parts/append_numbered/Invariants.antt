use Rattle.std.proofs.Common.{◌≡◌, length, take}
use Rattle.amr_layout.specs.PartFlows.{AppendsNumbered, AreNumbersOf, IsLonger}
use Rattle.amr_layout.proofs.parts.append_numbered.Given as goal

-- the first flows are numbered
abbrev pub invariant-loop-k : goal.invariant-loop-k
invariant-loop-k l = record {
  same_count : length l.numbers ≡ length l.initial.numbers;
  numbers : AreNumbersOf l.words.items l.numbers;
  longer : IsLonger l.initial.words.items l.words.items;
  flows : AppendsNumbered l.words.items (take l.k l.flows) l.initial.all.items l.all.items;
}
