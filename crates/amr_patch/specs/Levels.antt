-- What a level is: its boxes, and the masses of the cells of its patches.
use Rattle.std.specs.Prelude.{◌≡◌, List}
use Rattle.amr_def.specs.State as defined
use Rattle.amr_patch.specs.declared.patches.Patch.{Patch}
use Rattle.amr_patch.specs.declared.levels.Level.{Level}
use Rattle.amr_patch.specs.Pairwise.{Pairwise}
use Rattle.amr_patch.specs.Patches.{IsCopy, masses_in}

unfoldable pub level_of : Level → defined.Level
level_of l = record { boxes = l.boxes.items; masses = masses_in l.patches.items }

-- the patches that hold its cells
unfoldable pub patches_of : Level → List Patch
patches_of l = l.patches.items

-- a copy has the boxes and the masses, in copies of the patches
pub record IsLevelCopy (k l : Level) : Type 0 where
  pub level : level_of l ≡ level_of k
  pub patches : Pairwise IsCopy (patches_of k) (patches_of l)
