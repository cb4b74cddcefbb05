use Rattle.std.proofs.Common.{◌≡◌, ℕ, ◌<◌, get_or}
use Rattle.std.specs.Prelude.{IsTrue, ◌↔◌}
use Rattle.amr_codec.proofs.changes.are_equal.Given as goal

-- whether the numbers before k are equal
abbrev pub invariant-loop-k : goal.invariant-loop-k
invariant-loop-k l = IsTrue l.equal ↔ ((j : ℕ) → j < l.k → get_or l.a j 0 ≡ get_or l.b j 0)
