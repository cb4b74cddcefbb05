use Rattle.std.proofs.Common.{◌≡◌, ℕ, ◌-◌, ◌<◌, false, get_or}
use Rattle.std.specs.Mem.Slots.{slots_filled, slots_len}
use Rattle.std.specs.Mem.Slots.Ownership.{Filled}
use Rattle.amr_board.proofs.ended.Ended.drop.Given as goal

abbrev pub invariant-slots : goal.invariant-slots
invariant-slots g l = Filled (slots_filled l.closed.slots) l.slot (slots_len l.closed.slots) × ((k : ℕ) → k < l.slot → get_or (slots_filled l.closed.slots) k false ≡ false)

abbrev pub decreases-slots : goal.decreases-slots
decreases-slots g l = slots_len l.closed.slots - l.slot
