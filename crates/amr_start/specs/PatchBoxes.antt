-- Levels in the patches that a problem asks for.
use Rattle.std.specs.Prelude.{◌≡◌, ℕ, List, [], ◌∷◌, map}
use Rattle.std.specs.List.{flat_map}
use Rattle.std.specs.List.Sorted.{IsPermutation}
use Rattle.amr_box.specs.Cells.{Extent}
use Rattle.amr_boxlist.specs.Chopped.{chopped}
use Rattle.amr_def.specs.Domain.{domain, domain_box}
use Rattle.amr_def.specs.declared.problem.Problem.{Problem}
use Rattle.amr_patch.specs.declared.levels.Level.{Level}
use Rattle.amr_patch.specs.Levels.{level_of, patches_of}
use Rattle.amr_patch.specs.Patches.{box}

-- the level has a patch for each box of at most max by max cells that its boxes are chopped into, and no other (BoxLib: maxSize)
pub record IsChopped (max : ℕ) (l : Level) : Type 0 where
  pub patches : IsPermutation (flat_map (chopped max) (level_of l).boxes) (map box (patches_of l))

-- the same of a level of one box
pub record IsBoxChopped (max : ℕ) (b : Extent) (l : Level) : Type 0 where
  pub patches : IsPermutation (chopped max b) (map box (patches_of l))

-- level 0 alone, the domain chopped by the problem's max_grid_size
pub record HasChoppedDomain (p : Problem) (ls : List Level) : Type 0 where
  pub base : Level
  pub alone : ls ≡ base ∷ []
  pub chopped : IsBoxChopped p.max_grid_size (domain_box (domain p 0)) base
