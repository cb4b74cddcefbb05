-- The frame of a patch when it is filled: the value of each cell beside the patch, and whether it is a cell of the level.
use Rattle.std.specs.Prelude.{◌≡◌, ℕ, Bool, ◌&&◌, ◌||◌, not, List, IsTrue, is_some}
use Rattle.std.specs.declared.option.Option.{Option}
use Rattle.std.specs.declared.option.Option.TheVariants.{None, Some}
use Rattle.amr_box.specs.declared.Cell.{Cell}
use Rattle.amr_box.specs.Cells.{Extent, holds, within}
use Rattle.amr_def.specs.declared.problem.Problem.{Problem}
use Rattle.amr_def.specs.Domain.{Domain, domain, home_cell, in_domain}
use Rattle.amr_def.specs.State.{Masses, no_masses}
use Rattle.amr_def.specs.Value.{value_at}
use Rattle.amr_patch.specs.declared.patches.Patch.{Patch}
use Rattle.amr_patch.specs.declared.levels.Level.{Level}
use Rattle.amr_patch.specs.Places.{in_frame}
use Rattle.amr_patch.specs.Levels.{level_of}
use Rattle.amr_patch.specs.Patches.{box, ghost_in, in_patches, mark_in, mass_in}

-- whether a cell lies beside a box: in its frame, and in a row or a column of the box, so that it shares a face with a cell
-- of the box
abbrev pub is_beside : Extent → Cell → Bool
is_beside b c = in_frame b c && (within b.lo.x b.hi.x c.x || within b.lo.y b.hi.y c.y)

-- whether a cell is a corner of the frame, which no face of a cell of the box touches
abbrev pub is_corner : Extent → Cell → Bool
is_corner b c = in_frame b c && not (within b.lo.x b.hi.x c.x || within b.lo.y b.hi.y c.y)

-- whether a cell stands for one of the level
abbrev pub is_of_level : Problem → ℕ → Masses → Cell → Bool
is_of_level p l m c = is_some (m (home_cell (domain p l) c))

-- each ghost cell beside the patch has the value of the cell, by the masses of the level, m, and those of the next coarser
-- level at the start of its step, old
abbrev pub HasGhostValues : Problem → ℕ → Masses → Masses → Patch → Type 0
HasGhostValues p l m old q = (c : Cell) → IsTrue (is_beside (box q) c) → ghost_in q c ≡ value_at p l m old c

-- each is marked where it stands for a cell of the level
abbrev pub HasGhostMarks : Problem → ℕ → Masses → Patch → Type 0
HasGhostMarks p l m q = (c : Cell) → IsTrue (is_beside (box q) c) → mark_in q c ≡ is_of_level p l m c

-- each cell of the patch has the mass that it had
abbrev pub SameMasses : Patch → Patch → Type 0
SameMasses q r = (c : Cell) → IsTrue (holds (box q) c) → mass_in r c ≡ mass_in q c

-- the corners of a frame keep their values and their marks
pub record KeepsCorners (q r : Patch) : Type 0 where
  pub values : (c : Cell) → IsTrue (is_corner (box q) c) → ghost_in r c ≡ ghost_in q c
  pub marks : (c : Cell) → IsTrue (is_corner (box q) c) → mark_in r c ≡ mark_in q c

-- the cells of the patches are cells of the domain
abbrev pub AreInDomain : Domain → List Patch → Type 0
AreInDomain d ps = (c : Cell) → IsTrue (in_patches ps c) → IsTrue (in_domain d c)

-- the masses of the cells of a level, none where there is no level
abbrev pub old_masses : Option Level → Masses
old_masses None = no_masses
old_masses (Some k) = (level_of k).masses
