use Rattle.std.proofs.Common.{◌≡◌, ℕ, ◌<◌}
use Rattle.std.specs.Prelude.{slice_index}
use Rattle.amr_decoder.specs.Synced.{four_at}
use Rattle.amr_decoder.proofs.sync.are_sums.Given as goal

-- the masses before k are
abbrev pub invariant-loop-k : goal.invariant-loop-k
invariant-loop-k l = (i : ℕ) → i < l.k → slice_index l.masses i ≡ four_at l.lower l.upper i
