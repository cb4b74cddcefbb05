use Rattle.amr_patch.specs.Patches.{box}
use Rattle.amr_letters.specs.Told.{value_by}
use Rattle.amr_letters.specs.Filled.{AreSlotsFilled}
use Rattle.amr_letters.proofs.fill.fill_slots.Given as goal

-- the slots so far are filled
abbrev pub invariant-loop-slot : goal.invariant-loop-slot
invariant-loop-slot l = AreSlotsFilled (value_by l.p l.l l.number (box l.initial.patch) l.node) l.slot l.initial.patch l.patch
