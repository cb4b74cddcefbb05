-- Patches that are corrected after both steps of the next finer level. (Berger and Colella: coarse cells beside a fine grid are refluxed,
-- those under it take its values)
use Rattle.std.specs.Prelude.{◌≡◌, ◌+◌, ◌^◌, ◌<◌, ℕ, cond, ℤ, pos, ◌+ℤ◌, ◌≤ℤ◌, ◌<ℤ◌, List, length, slice_index_or, IsTrue}
use Rattle.std.specs.Arc.{arc_value}
use Rattle.std.specs.List.{All, AllZip, Contains}
use Rattle.std.specs.declared.option.Option.{Option}
use Rattle.std.specs.declared.option.Option.TheVariants.{Some}
use Rattle.amr_box.specs.declared.Cell.{Cell}
use Rattle.amr_box.specs.Cells.{at_least_zero, holds}
use Rattle.amr_def.specs.State.{Masses, children_mass, is_covered}
use Rattle.amr_patch.specs.declared.patches.Patch.{Patch}
use Rattle.amr_patch.specs.Orders.{IsOrderOf}
use Rattle.amr_patch.specs.Patches.{ArePatchesApart, KeepsFrameAndFluxes, box, mass_in, masses_in}
use Rattle.amr_register.specs.declared.register.Register.{Register}
use Rattle.amr_register.specs.Fields.{IsBoxAt, IsPlaced, cells_in, entry_in}
use Rattle.amr_transfer.specs.Sums.{AreCoarsenable}
use Rattle.amr_lots.specs.declared.lot.Correction.{Correction}
use Rattle.amr_lots.specs.declared.lot.Lot.{Lot}
use Rattle.amr_lots.specs.Runs.{with_patches}

-- a covered cell of a patch gets the mass of its children, each other cell what it had with its entry, and all else of the patch stays
pub record IsCorrected (fine : Masses) (entry : Cell → ℤ) (old new : Patch) : Type 0 where
  pub kept : KeepsFrameAndFluxes old new
  pub masses : (c : Cell) → IsTrue (holds (box old) c)
      → mass_in new c ≡ cond (is_covered fine c) (children_mass fine c) (at_least_zero (pos (mass_in old c) +ℤ entry c))

-- the entry of each register cell of a patch fits its mass
pub record FitsEntries (r : Register) (q : Patch) : Type 0 where
  pub not_negative : (c : Cell) → Contains (cells_in r) c → IsTrue (holds (box q) c) → pos 0 ≤ℤ (pos (mass_in q c) +ℤ entry_in r c)
  pub fits : (c : Cell) → Contains (cells_in r) c → IsTrue (holds (box q) c) → (pos (mass_in q c) +ℤ entry_in r c) <ℤ pos (2 ^ 32)

-- the finer patches of a correction, and its register
abbrev pub finer_in : Correction → List Patch
finer_in x = (arc_value x.finer).items

abbrev pub register_in : Correction → Register
register_in x = arc_value x.register

-- a register with its lists, and finer patches whose sums can be given
pub record IsReady (x : Correction) : Type 0 where
  pub placed : IsPlaced (register_in x)
  pub order : IsOrderOf x.order (finer_in x)
  pub apart : ArePatchesApart (finer_in x)
  pub coarsenable : AreCoarsenable (finer_in x)
  pub small : (c : Cell) → children_mass (masses_in (finer_in x)) c < 2 ^ 32

-- it is ready for patches that stand in the level from its first number on
pub record CanCorrect (x : Correction) (patches : List Patch) : Type 0 where
  pub ready : IsReady x
  pub few : x.first + length patches < 2 ^ 62
  pub boxes : (i : ℕ) (q : Patch) → i < length patches → IsBoxAt (x.first + i) (box (slice_index_or patches i q)) (register_in x)
  pub fits : All (FitsEntries (register_in x)) patches

-- what was lent to a lot can correct its patches
pub record MayCorrect (lot : Lot) : Type 0 where
  pub correction : Correction
  pub lent : lot.correction ≡ Some correction
  pub can : CanCorrect correction lot.patches.items

-- patches were corrected by this
abbrev pub AreCorrectedBy : Correction → List Patch → List Patch → Type 0
AreCorrectedBy x before after = AllZip (IsCorrected (masses_in (finer_in x)) (entry_in (register_in x))) before after

-- the patches of a lot were corrected by what was lent to it, and all else stayed
pub record HasCorrected (lot after : Lot) : Type 0 where
  pub others : after ≡ with_patches after.patches lot
  pub patches : (x : Correction) → lot.correction ≡ Some x → AreCorrectedBy x lot.patches.items after.patches.items

-- a lot with another correction, or none
abbrev pub with_correction : Option Correction → Lot → Lot
with_correction correction lot = record lot { correction = correction }
