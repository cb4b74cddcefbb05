use Rattle.std.proofs.Common.{◌≡◌, ℕ, ◌<◌, drop, get_or}
use Rattle.std.specs.Int.{w32}
use Rattle.amr_decoder.specs.Numbers.{number_at}
use Rattle.amr_decoder.proofs.fill.read_words.Given as goal

-- the numbers before i are read
abbrev pub invariant-loop-i : goal.invariant-loop-i
invariant-loop-i l = (k : ℕ) → k < l.i → get_or l.row k 0 ≡ number_at w32 (drop l.from l.bytes) k
