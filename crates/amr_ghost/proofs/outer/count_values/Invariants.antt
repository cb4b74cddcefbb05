use Rattle.std.proofs.Common.{◌≡◌, take}
use Rattle.amr_ghost.specs.Outer.{value_count}
use Rattle.amr_ghost.proofs.outer.count_values.Given as goal

-- the values of the spans so far are counted
abbrev pub invariant-loop-k : goal.invariant-loop-k
invariant-loop-k l = l.count ≡ value_count (take l.k l.spans)
