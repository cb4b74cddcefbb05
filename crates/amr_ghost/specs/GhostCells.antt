-- What stays and what is gained while frames are filled, a cell at a time.
use Rattle.std.specs.Prelude.{◌≡◌, ◌≢◌, ℕ, ◌<◌, Bool, true, pos, ◌+ℤ◌, ◌-ℤ◌, ◌≤ℤ◌, ◌<ℤ◌, List, IfSome, IsTrue}
use Rattle.std.specs.declared.option.Option.{Option}
use Rattle.amr_box.specs.declared.Cell.{Cell}
use Rattle.amr_box.specs.declared.Axis.{Axis}
use Rattle.amr_box.specs.declared.Axis.TheVariants.{X, Y}
use Rattle.amr_box.specs.Cells.{Extent, along, cell, height, holds, width}
use Rattle.amr_def.specs.declared.problem.Problem.{Problem}
use Rattle.amr_def.specs.Domain.{Domain, is_inside}
use Rattle.amr_def.specs.State.{Masses}
use Rattle.amr_def.specs.Value.{value_at}
use Rattle.amr_patch.specs.declared.patches.Patch.{Patch}
use Rattle.amr_patch.specs.Places.{grown, in_frame}
use Rattle.amr_patch.specs.Patches.{ArePatchesApart, SameFluxes, box, mark_in, mass_in, value_in}
use Rattle.amr_patch.specs.declared.lookup.Order.{Order}
use Rattle.amr_patch.specs.Orders.{IsOrderOf}
use Rattle.amr_patch.specs.declared.gaps.Starts.{Starts}
use Rattle.amr_patch.specs.Gaps.{Ascends, HasStarts}
use Rattle.amr_ghost.specs.Frames.{AreInDomain, KeepsCorners, SameMasses, is_beside, is_of_level}
use Rattle.amr_ghost.specs.Strips.{step}
use Rattle.amr_ghost.specs.declared.sides.Side.{Side}
use Rattle.amr_ghost.specs.declared.sides.Side.TheVariants.{East, North, South, West}

-- a patch keeps all but the ghost cells beside it
pub record KeepsCells (q r : Patch) : Type 0 where
  pub of_box : box r ≡ box q
  pub masses : SameMasses q r
  pub fluxes : SameFluxes q r
  pub corners : KeepsCorners q r

-- a ghost cell has a value and a mark
pub record HasGhost (value : Cell → ℕ) (mark : Cell → Bool) (q : Patch) (c : Cell) : Type 0 where
  pub valued : value_in q c ≡ value c
  pub marked : mark_in q c ≡ mark c

-- what a patch becomes where the first ghost cells of a strip are given values, and all of them a mark
pub record AreGhostsSet (q r : Patch) (axis : Axis) (to : Cell) (count : ℕ) (given : ℕ → ℕ) (of_level : Bool) : Type 0 where
  pub set : (k : ℕ) → k < count → value_in r (step axis to k) ≡ given k
  pub marked : (k : ℕ) → k < count → mark_in r (step axis to k) ≡ of_level
  pub others : (c : Cell) → IsTrue (holds (grown (box q)) c) → ((k : ℕ) → k < count → c ≢ step axis to k) → value_in r c ≡ value_in q c
  pub marks : (c : Cell) → IsTrue (holds (grown (box q)) c) → ((k : ℕ) → k < count → c ≢ step axis to k) → mark_in r c ≡ mark_in q c
  pub fluxes : SameFluxes q r
  pub of_box : box r ≡ box q

-- a ghost cell that has its value and its mark keeps them
pub record KeepsGhosts (value : Cell → ℕ) (mark : Cell → Bool) (q r : Patch) : Type 0 where
  pub at : (c : Cell) → IsTrue (in_frame (box q) c) → HasGhost value mark q c → HasGhost value mark r c

-- how many cells an axis of a domain has
abbrev pub size_along : Axis → Domain → ℕ
size_along X d = d.columns
size_along Y d = d.rows

-- the first cells of a strip along an axis are ghost cells of a box, in rows or columns of the domain
pub record IsGhostStrip (d : Domain) (b : Extent) (axis : Axis) (c : Cell) (count : ℕ) : Type 0 where
  pub ghosts : (k : ℕ) → k < count → IsTrue (in_frame b (step axis c k))
  pub beside : (k : ℕ) → k < count → IsTrue (is_beside b (step axis c k))
  pub inside : (k : ℕ) → k < count → IsTrue (is_inside (size_along axis d) (along axis c +ℤ pos k))

-- the first ghost cells of a strip have a value and a mark
pub record HasGhosts (value : Cell → ℕ) (mark : Cell → Bool) (q : Patch) (axis : Axis) (c : Cell) (count : ℕ) : Type 0 where
  pub at : (k : ℕ) → k < count → HasGhost value mark q (step axis c k)

-- the first cells of a strip have these values, and all of them this mark
pub record AreGiven (value : Cell → ℕ) (mark : Cell → Bool) (axis : Axis) (to : Cell) (count : ℕ) (given : ℕ → ℕ) (of_level : Bool) : Type 0 where
  pub values : (k : ℕ) → k < count → value (step axis to k) ≡ given k
  pub marks : (k : ℕ) → k < count → mark (step axis to k) ≡ of_level

-- the first cells of a strip have as values the masses that a patch has along another strip, and are marked
abbrev pub AreCopied : (Cell → ℕ) → (Cell → Bool) → Patch → Axis → Cell → Cell → ℕ → Type 0
AreCopied value mark q axis to from count = AreGiven value mark axis to count (λ k. mass_in q (step axis from k)) true

-- columns and rows that stand in order
pub record AreOrdered (s : Starts) : Type 0 where
  pub columns : Ascends s.columns.items
  pub rows : Ascends s.rows.items

-- the patches are those of a level in a domain, stand in this order, and start in these columns and rows, if any are told
pub record IsLevelInOrder (d : Domain) (o : Order) (starts : Option Starts) (ps : List Patch) : Type 0 where
  pub ordered : IsOrderOf o ps
  pub apart : ArePatchesApart ps
  pub inside : AreInDomain d ps
  pub starting : IfSome starts (HasStarts ps)

-- the cells along a side of a box: where they begin, the axis that they go along, and how many there are
abbrev pub side_axis : Side → Axis
side_axis West = Y
side_axis East = Y
side_axis South = X
side_axis North = X

abbrev pub side_from : Extent → Side → Cell
side_from b West = cell (b.lo.x -ℤ pos 1) b.lo.y
side_from b East = cell (b.hi.x +ℤ pos 1) b.lo.y
side_from b South = cell b.lo.x (b.lo.y -ℤ pos 1)
side_from b North = cell b.lo.x (b.hi.y +ℤ pos 1)

abbrev pub side_count : Extent → Side → ℕ
side_count b West = height b
side_count b East = height b
side_count b South = width b
side_count b North = width b

-- the ghost cells beside a patch have the value and the mark of their cell
pub record HasFrame (p : Problem) (l : ℕ) (m old : Masses) (q : Patch) : Type 0 where
  pub at : (c : Cell) → IsTrue (is_beside (box q) c) → HasGhost (value_at p l m old) (is_of_level p l m) q c

-- where a box that has a cell lies in a domain
pub record LiesInDomain (d : Domain) (b : Extent) : Type 0 where
  pub wide : b.lo.x ≤ℤ b.hi.x
  pub high : b.lo.y ≤ℤ b.hi.y
  pub west : pos 0 ≤ℤ b.lo.x
  pub south : pos 0 ≤ℤ b.lo.y
  pub east : b.hi.x <ℤ pos d.columns
  pub north : b.hi.y <ℤ pos d.rows
