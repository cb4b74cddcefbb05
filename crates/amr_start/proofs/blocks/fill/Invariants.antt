use Rattle.std.proofs.Common.{◌≡◌, ℕ, ◌&&◌, cond, get_or}
use Rattle.std.specs.Prelude.{nat_le, nat_lt}
use Rattle.amr_start.proofs.blocks.fill.Given as goal

-- the entries from `low` to before k have the mass, and the others what they had
abbrev pub invariant-loop-k : goal.invariant-loop-k
invariant-loop-k l = (j : ℕ) → get_or l.masses j 0 ≡ cond (nat_le l.low j && nat_lt j l.k) l.mass (get_or l.fn.masses j 0)
