use Rattle.std.proofs.Common.{◌≡◌, ◌+◌, ◌++◌, map, take}
use Rattle.amr_layout.proofs.in_threads.append_bounds.Given as goal

-- the first bounds stand behind what was there
abbrev pub invariant-loop-b : goal.invariant-loop-b
invariant-loop-b l = l.all.items ≡ l.initial.all.items ++ map (λ b. l.before + b) (take l.b-index l.bounds)
