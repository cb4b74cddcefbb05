-- What a regrid makes of levels.
use Rattle.std.specs.Prelude.{◌≡◌, ◌⊎◌, ℕ, ◌+◌, ◌≤◌, Bool, List, [], ◌∷◌, length, is_some}
use Rattle.std.specs.declared.option.Option.{Option}
use Rattle.std.specs.declared.option.Option.TheVariants.{Some}
use Rattle.amr_box.specs.declared.Cell.{Cell}
use Rattle.amr_box.specs.Cells.{Extent, in_boxes}
use Rattle.amr_def.specs.declared.problem.Problem.{Problem}
use Rattle.amr_def.specs.Domain.{domain}
use Rattle.amr_def.specs.Facts.{IsLevel, IsNestedIn}
use Rattle.amr_def.specs.NewBoxes.{first_boxes, new_boxes}
use Rattle.amr_def.specs.State as defined
use Rattle.amr_patch.specs.declared.levels.Level.{Level}
use Rattle.amr_regrid.specs.declared.masses.Remade.{Remade}
use Rattle.amr_regrid.specs.declared.masses.Remade.TheVariants.{Kept, Made}
use Rattle.amr_start.specs.PatchBoxes.{IsChopped}
use Rattle.amr_regrid.specs.Outlines.{Outline, outline}

-- the levels that there will be: a level that was made, or the one that was kept
unfoldable pub remade_levels : List Level → List Remade → List Level
remade_levels olds [] = []
remade_levels [] (Kept ∷ more) = remade_levels [] more
remade_levels [] (Made k ∷ more) = k ∷ remade_levels [] more
remade_levels (old ∷ olds) (Kept ∷ more) = old ∷ remade_levels olds more
remade_levels (old ∷ olds) (Made k ∷ more) = k ∷ remade_levels olds more

-- what stands in the place of a level, or of none
abbrev pub level_there : Option Level → Remade → Option Level
level_there old Kept = old
level_there old (Made k) = Some k

-- a level that was made is chopped
abbrev pub IsChoppedIfMade : ℕ → Remade → Type 0
IsChoppedIfMade max Kept = Unit {0}
IsChoppedIfMade max (Made k) = IsChopped max k

-- each level is in the patches that max asks for, or has the boxes, masses and patch boxes of the one in its place before
abbrev pub AreChoppedOrKept : ℕ → List Level → List Outline → Type 0
AreChoppedOrKept max [] olds = Unit {0}
AreChoppedOrKept max (k ∷ ks) [] = IsChopped max k × AreChoppedOrKept max ks []
AreChoppedOrKept max (k ∷ ks) (old ∷ olds) = (IsChopped max k ⊎ (outline k ≡ old)) × AreChoppedOrKept max ks olds

-- the masses of a level are those of its boxes' cells
pub record HasMassesInBoxes (k : defined.Level) : Type 0 where
  pub at : (c : Cell) → is_some (k.masses c) ≡ in_boxes k.boxes c

-- new boxes of the levels l + 1 and up, over level l, in which the first of them are nested
pub record Stands (p : Problem) (l : ℕ) (k : defined.Level) (boxes : List (List Extent)) : Type 0 where
  pub tagged : ℕ → Cell → Bool
  pub count : ℕ
  pub boxes_are : boxes ≡ new_boxes p tagged count l
  pub few : l + length boxes ≤ 4
  pub level : IsLevel p l k
  pub nested : IsNestedIn (domain p l) p.blocking (first_boxes boxes) k.boxes
