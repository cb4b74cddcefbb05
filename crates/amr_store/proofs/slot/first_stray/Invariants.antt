use Rattle.std.proofs.Common.{◌≡◌, ℕ, ◌<◌, false}
use Rattle.amr_store.specs.Table.{is_stray}
use Rattle.amr_store.proofs.slot.first_stray.Given as goal

abbrev pub invariant-loop-k : goal.invariant-loop-k
invariant-loop-k l = (j : ℕ) → j < l.k → is_stray l.deltas l.slots j ≡ false
