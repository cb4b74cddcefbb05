use Rattle.std.proofs.Common.{take}
use Rattle.amr_def.specs.State.{mass_of}
use Rattle.amr_patch.specs.Patches.{in_patches, masses_in}
use Rattle.amr_transfer.specs.Given.{IsGiven}
use Rattle.amr_transfer.proofs.old_cells.keep.Given as goal

-- the cells of the old patches so far are kept
abbrev pub invariant-loop-q : goal.invariant-loop-q
invariant-loop-q l = IsGiven (in_patches (take l.q-index l.q-items)) (mass_of (masses_in l.q-items)) l.initial.patch l.patch
