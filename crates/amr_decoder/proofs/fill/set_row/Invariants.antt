use Rattle.std.proofs.Common.{◌≤◌, ◌-◌, length}
use Rattle.amr_decoder.specs.Filled.{IsSpanSet}
use Rattle.amr_decoder.proofs.fill.set_row.Given as goal

-- the cells before `first` have their masses
abbrev pub invariant-loop-first : goal.invariant-loop-first
invariant-loop-first l = record {
  set : IsSpanSet l.c l.masses l.first l.initial.patches l.patches;
  within : l.first ≤ length l.masses;
}

abbrev pub decreases-loop-first : goal.decreases-loop-first
decreases-loop-first l = length l.masses - l.first
