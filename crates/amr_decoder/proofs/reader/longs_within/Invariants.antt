use Rattle.std.proofs.Common.{ℕ, ◌<◌, ◌≤◌}
use Rattle.std.specs.Int.{w64}
use Rattle.amr_decoder.specs.Numbers.{number_at}
use Rattle.amr_decoder.proofs.reader.longs_within.Given as goal

-- none of the numbers so far is greater
abbrev pub invariant-loop-k : goal.invariant-loop-k
invariant-loop-k l = (i : ℕ) → i < l.k → number_at w64 l.bytes i ≤ l.greatest
