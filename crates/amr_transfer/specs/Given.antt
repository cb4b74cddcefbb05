-- Cells of a patch that are given masses, while all else of the patch stays.
use Rattle.std.specs.Prelude.{◌≡◌, ℕ, ◌<◌, Bool, false, pos, ◌+ℤ◌, ◌-ℤ◌, List, length, slice_index, IsSome, IsTrue}
use Rattle.amr_box.specs.declared.Cell.{Cell}
use Rattle.amr_box.specs.Cells.{Extent, cell, extent, holds}
use Rattle.amr_def.specs.State.{Masses, mass_of}
use Rattle.amr_patch.specs.declared.patches.Patch.{Patch}
use Rattle.amr_patch.specs.Patches.{KeepsFrameAndFluxes, box, mass_in}

-- the cells of a set have these masses, and all else of the patch is as it was
pub record IsGiven (cells : Cell → Bool) (mass : Cell → ℕ) (p q : Patch) : Type 0 where
  pub kept : KeepsFrameAndFluxes p q
  pub given : (c : Cell) → IsTrue (holds (box p) c) → IsTrue (cells c) → mass_in q c ≡ mass c
  pub others : (c : Cell) → IsTrue (holds (box p) c) → cells c ≡ false → mass_in q c ≡ mass_in p c

-- the cells of a set were cells of the level, and keep the masses that they had there
pub record HasOldMasses (old : Masses) (cells : Cell → Bool) (p q : Patch) : Type 0 where
  pub given : IsGiven cells (mass_of old) p q
  pub there : (c : Cell) → IsTrue (holds (box p) c) → IsTrue (cells c) → IsSome (old c)

-- n cells of a row, from a cell on
abbrev pub span : Cell → ℕ → Extent
span c n = extent c (cell (c.x +ℤ pos n -ℤ pos 1) c.y)

-- these are the masses of the cells of a row, from a cell on
abbrev pub AreMassesFrom : (Cell → ℕ) → Cell → List ℕ → Type 0
AreMassesFrom mass c ms = (k : ℕ) → k < length ms → slice_index ms k ≡ mass (cell (c.x +ℤ pos k) c.y)

-- how many cells a row of a box has from a cell on
abbrev pub IsCountFrom : Extent → Cell → ℕ → Type 0
IsCountFrom b c n = pos n ≡ b.hi.x +ℤ pos 1 -ℤ c.x

-- the first n rows of a box
abbrev pub rows_to : Extent → ℕ → Extent
rows_to b n = extent b.lo (cell b.hi.x (b.lo.y +ℤ pos n -ℤ pos 1))

-- each cell of the patch has this mass
pub record HasMasses (mass : Cell → ℕ) (q : Patch) : Type 0 where
  pub at : (c : Cell) → IsTrue (holds (box q) c) → mass_in q c ≡ mass c
