-- Which rank has what a ghost cell needs. (Grids are dealt out to processors, and a ghost cell is filled from the processor that has its
-- cell: Rendleman, C. and others, Parallelization of structured, hierarchical adaptive mesh refinement algorithms, Computing and
-- Visualization in Science 3 (2000))
use Rattle.std.specs.Prelude.{◌≡◌, ℕ, ◌<◌, cond, List, [], ◌∷◌, length, map, slice_index_or, pos}
use Rattle.std.specs.declared.option.Option.{Option}
use Rattle.std.specs.declared.option.Option.TheVariants.{None, Some}
use Rattle.std.specs.List.{All}
use Rattle.amr_box.specs.declared.Cell.{Cell}
use Rattle.amr_box.specs.Cells.{Extent, cell, extent, holds, parent}
use Rattle.amr_def.specs.declared.problem.Problem.{Problem}
use Rattle.amr_def.specs.Cut.{or_else}
use Rattle.amr_def.specs.Domain.{domain, home_cell, in_domain}
use Rattle.amr_def.specs.Value.{value_at}
use Rattle.amr_patch.specs.declared.patches.Patch.{Patch}
use Rattle.amr_patch.specs.Patches.{box, masses_in}
use Rattle.amr_letters.specs.Beside.{beside_cell}

-- a level of a problem: its patches and the rank that owns each, and those of the next coarser level; none below level 0
pub record Sharing : Type 0 where
  pub problem : Problem
  pub level : ℕ
  pub patches : List Patch
  pub owners : List ℕ
  pub coarser : List Patch
  pub coarser_owners : List ℕ

-- the rank of the patch that has the cell, if one has it
abbrev pub holder : List Patch → List ℕ → Cell → Option ℕ
holder [] owners c = None
holder (p ∷ ps) [] c = None
holder (p ∷ ps) (o ∷ owners) c = cond (holds (box p) c) (Some o) (holder ps owners c)

-- the rank that has the cell h of the level; where no patch of the level has it and it is in the domain, the one that has its parent
abbrev pub source_of_home : Sharing → Cell → Option ℕ
source_of_home s h =
    or_else (holder s.patches s.owners h) (cond (in_domain (domain s.problem s.level) h) (holder s.coarser s.coarser_owners (parent h)) None)

-- the rank that the value of a ghost cell comes from: none where it comes from no patch
abbrev pub source : Sharing → Cell → Option ℕ
source s c = source_of_home s (home_cell (domain s.problem s.level) c)

-- the value of a ghost cell
abbrev pub value_of : Sharing → Cell → ℕ
value_of s c = value_at s.problem s.level (masses_in s.patches) (masses_in s.coarser) c

abbrev pub no_box : Extent
no_box = extent (cell (pos 0) (pos 0)) (cell (pos 0) (pos 0))

-- the box of the patch of this number
abbrev pub box_at : Sharing → ℕ → Extent
box_at s k = slice_index_or (map box s.patches) k no_box

-- the ghost cell at a slot of the patch of this number
abbrev pub ghost_at : Sharing → ℕ → ℕ → Cell
ghost_at s k slot = beside_cell (box_at s k) slot

-- each patch has an owner, and each owner is one of so many ranks
pub record AreOwned (ranks : ℕ) (ps : List Patch) (owners : List ℕ) : Type 0 where
  pub counted : length owners ≡ length ps
  pub ranked : All (λ owner. owner < ranks) owners
