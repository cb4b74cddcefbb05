-- Boxes of a level that are read so far, and the parents of their cells.
use Rattle.std.specs.Prelude.{◌≡◌, ℕ, ◌-◌, ◌<◌, ◌&&◌, pos, ◌+ℤ◌, List, reverse, map, IsTrue}
use Rattle.std.specs.List.{All}
use Rattle.amr_box.specs.declared.Cell.{Cell}
use Rattle.amr_box.specs.Cells.{Extent, half, holds, in_boxes, parents_of}
use Rattle.amr_def.specs.declared.problem.Problem.{Problem}
use Rattle.amr_def.specs.Domain.{domain, domain_box}
use Rattle.amr_tags.specs.TagSets.{TagSet, has}
use Rattle.amr_decoder.specs.declared.grid.Grid.{Grid}
use Rattle.amr_decoder.specs.Grids.{boxes_of}

-- boxes with the places of their masses, in the order of reading, and the domain of the next coarser level as a box
pub record Earlier : Type 0 where
  pub grids : List Grid
  pub below : Extent

-- the boxes, the newest first
abbrev pub newest_first : List Grid → List Extent
newest_first gs = reverse (boxes_of gs)

-- the tags of a level are the parents of the cells of boxes, as far as they are of that level
pub record AreParents (boxes : List Extent) (t : TagSet) : Type 0 where
  pub at : (c : Cell) → has t c ≡ (holds t.bx c && in_boxes (map parents_of boxes) c)

-- a box has all children of each parent of its cells, and the parents are of the next coarser level
pub record IsOverParents (below b : Extent) : Type 0 where
  pub west : half b.lo.x +ℤ half b.lo.x ≡ b.lo.x
  pub south : half b.lo.y +ℤ half b.lo.y ≡ b.lo.y
  pub east : half b.hi.x +ℤ half b.hi.x +ℤ pos 1 ≡ b.hi.x
  pub north : half b.hi.y +ℤ half b.hi.y +ℤ pos 1 ≡ b.hi.y
  pub inside : (c : Cell) → IsTrue (holds (parents_of b) c) → IsTrue (holds below c)

-- the boxes are of level l, and a new one can be compared with them
pub record AreOfLevel (p : Problem) (l : ℕ) (e : Earlier) : Type 0 where
  pub below : 0 < l → e.below ≡ domain_box (domain p (l - 1))
  pub over : 0 < l → All (IsOverParents e.below) (boxes_of e.grids)
