use Rattle.std.proofs.Common.{◌≡◌, ◌*◌, ◌≤◌, take}
use Rattle.amr_advance.proofs.kept_layout.are_same_cells.Given as goal

-- so many coordinates differ at most, and where none does the cells so far are the same
abbrev pub invariant-loop-k : goal.invariant-loop-k
invariant-loop-k l = record { few : l.count ≤ 2 * l.k; same : l.count ≡ 0 → take l.k l.a ≡ take l.k l.b }
