use Rattle.std.proofs.Common.{◌≡◌, ℕ, ◌<◌, true}
use Rattle.amr_store.specs.Table.{latest_base}
use Rattle.amr_store.proofs.Chains.{linked}
use Rattle.amr_store.proofs.slot.chain_of.Given as goal

abbrev pub invariant-loop-count : goal.invariant-loop-count
invariant-loop-count l = (j : ℕ) → j < l.count → linked l.slots (latest_base l.deltas l.slots) j ≡ true
