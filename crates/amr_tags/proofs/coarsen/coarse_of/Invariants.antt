use Rattle.std.proofs.Common.{◌≡◌, ℕ, ◌%◌, ◌<◌, ◌&&◌}
use Rattle.std.specs.Prelude.{nat_lt}
use Rattle.amr_tags.specs.Bits.{bit}
use Rattle.amr_tags.specs.Coarse.{paired}
use Rattle.amr_tags.proofs.coarsen.coarse_of.Given as goal

abbrev pub invariant-loop-i : goal.invariant-loop-i
invariant-loop-i l = (k : ℕ) → k < 64 → bit l.word k ≡ (nat_lt (k % 32) l.i && paired l.low l.high k)
