-- What corrects a level, and its parts, which are lent to lots.
use Rattle.std.specs.Prelude.{◌≡◌, ℕ, ◌<◌, ◌^◌, pos, ◌+ℤ◌, ◌≤ℤ◌, ◌<ℤ◌, Bool, true, false, IsSome, map}
use Rattle.std.specs.declared.option.Option.TheVariants.{Some}
use Rattle.std.specs.List.{Contains}
use Rattle.amr_box.specs.declared.Cell.{Cell}
use Rattle.amr_box.specs.Cells.{parent}
use Rattle.amr_def.specs.State.{children_mass, mass_of}
use Rattle.amr_lots.specs.Corrections.{finer_in, register_in, with_correction}
use Rattle.amr_lots.specs.declared.lot.Correction.{Correction}
use Rattle.amr_lots.specs.declared.lot.Lot.{Lot}
use Rattle.amr_patch.specs.declared.levels.Level.{Level}
use Rattle.amr_patch.specs.Levels.{level_of, patches_of}
use Rattle.amr_patch.specs.Patches.{box}
use Rattle.amr_register.specs.declared.register.Register.{Register}
use Rattle.amr_register.specs.Entries.{with_entries}
use Rattle.amr_register.specs.Fields.{HasEdgesOf, IsPlaced, cells_in, entry_in}
use Rattle.amr_transfer.specs.Sums.{AreCoarsenable, summed}

-- a share of what corrects a level, for patches from this number on
pub record IsPartFrom (first : ℕ) (whole part : Correction) : Type 0 where
  pub register : register_in part ≡ register_in whole
  pub finer : finer_in part ≡ finer_in whole
  pub order : part.order ≡ whole.order
  pub first_is : part.first ≡ first

-- a lot was lent such a share, and all else of it stayed
pub record IsLentPart (first : ℕ) (whole : Correction) (a b : Lot) : Type 0 where
  pub part : Correction
  pub is_part : IsPartFrom first whole part
  pub lent : b ≡ with_correction (Some part) a

-- all but what corrects a lot is as before
abbrev pub KeepsAllButCorrection : Lot → Lot → Type 0
KeepsAllButCorrection a b = b ≡ with_correction b.correction a

-- ---- a level

-- a register and a finer level that may correct a level. The register was made over the boxes of the level, its cells are cells of the level,
-- and no mass with its entry is below 0, or 2^32 or more. The parent of each finer cell is a cell of the level, no finer patch cuts one, and
-- each sum of the masses of children is below 2^32.
pub record MayCorrectLevel (register : Register) (level finer : Level) : Type 0 where
  pub placed : IsPlaced register
  pub edges : HasEdgesOf (map box (patches_of level)) register
  pub of_level : (c : Cell) → Contains (cells_in register) c → IsSome ((level_of level).masses c)
  pub not_negative : (c : Cell) → Contains (cells_in register) c → pos 0 ≤ℤ (pos (mass_of (level_of level).masses c) +ℤ entry_in register c)
  pub fits : (c : Cell) → Contains (cells_in register) c → (pos (mass_of (level_of level).masses c) +ℤ entry_in register c) <ℤ pos (2 ^ 32)
  pub parents : (c : Cell) → IsSome ((level_of finer).masses c) → IsSome ((level_of level).masses (parent c))
  pub coarsenable : AreCoarsenable (patches_of finer)
  pub small : (c : Cell) → children_mass (level_of finer).masses c < 2 ^ 32

-- each register cell of a level got its entry, and each covered cell the sum of its children
pub record IsCorrectedLevel (register : Register) (finer before after : Level) : Type 0 where
  pub masses : (level_of after).masses ≡ summed (level_of finer).masses (with_entries (entry_in register) (level_of before).masses)
  pub boxes : (level_of after).boxes ≡ (level_of before).boxes
  pub patches : map box (patches_of after) ≡ map box (patches_of before)

-- the same where it was done, else the level has the masses of before
pub record IsTriedLevel (was_done : Bool) (register : Register) (finer before after : Level) : Type 0 where
  pub corrected : was_done ≡ true → (level_of after).masses ≡ summed (level_of finer).masses (with_entries (entry_in register) (level_of before).masses)
  pub same : was_done ≡ false → (level_of after).masses ≡ (level_of before).masses
  pub boxes : (level_of after).boxes ≡ (level_of before).boxes
  pub patches : map box (patches_of after) ≡ map box (patches_of before)
