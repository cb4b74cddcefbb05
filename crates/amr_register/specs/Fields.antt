-- What a flux register has: the list of its cells, an entry for each, and for each patch of the level the cells that it has.
-- (Berger and Colella)
use Rattle.std.specs.Prelude.{◌≡◌, ◌<◌, ℕ, ℤ, List, [], length, slice_index_or, IsTrue}
use Rattle.std.specs.List.{AllZip}
use Rattle.amr_box.specs.declared.Cell.{Cell}
use Rattle.amr_box.specs.Cells.{Extent, holds}
use Rattle.amr_def.specs.declared.problem.Problem.{Problem}
use Rattle.amr_def.specs.Domain.{domain}
use Rattle.amr_def.specs.State.{Masses, is_covered}
use Rattle.amr_register.specs.declared.register.Register.{Register}
use Rattle.amr_register.specs.declared.edges.EdgeCell.{EdgeCell}
use Rattle.amr_register.specs.declared.sides.CoveredSides.{CoveredSides}
use Rattle.amr_register.specs.RegisterCells.{register_cells}
use Rattle.amr_register.specs.Beside.{HaveSides}
use Rattle.amr_register.specs.EdgeCells.{AreEdges, AreEdgesIn, HaveEachOnce, IsPlaceIn, Place, SameEdges, edge_at, lists_of}
use Rattle.amr_register.specs.Entries.{entry_at}

-- its cells, in order
unfoldable pub cells_in : Register → List Cell
cells_in r = r.cells.items

-- the entry of a cell, 0 where it has none
unfoldable pub entry_in : Register → Cell → ℤ
entry_in r c = entry_at r.cells.items r.entries.items c

-- on which sides of its cells covered ones lie
unfoldable pub sides_in : Register → List CoveredSides
sides_in r = r.sides.items

-- its lists of edge cells, one for each patch; none while they are taken out
unfoldable pub edges_in : Register → List (List EdgeCell)
edges_in r = lists_of r.edges.items

-- it has a list for each of these boxes, with cells of the box
pub record HasEdgesOf (boxes : List Extent) (r : Register) : Type 0 where
  pub lists : AllZip AreEdgesIn boxes (edges_in r)

-- this is the box of patch k of the level: list k has cells of it, and no other list has any
pub record IsBoxAt (k : ℕ) (b : Extent) (r : Register) : Type 0 where
  pub inside : k < length (edges_in r)
  pub cells : AreEdgesIn b (slice_index_or (edges_in r) k [])
  pub others : (w : Place) (e : EdgeCell) → IsPlaceIn (edges_in r) w → IsTrue (holds b (edge_at (edges_in r) w e).cell) → w.list ≡ k

-- each of its cells stands in the lists once, with its number, and no others
abbrev pub IsPlaced : Register → Type 0
IsPlaced r = HaveEachOnce (cells_in r) (edges_in r)

-- it was made over level l with masses m, where the next finer one has masses `fine`, and its lists are not taken out
pub record IsRegisterOf (p : Problem) (l : ℕ) (m fine : Masses) (r : Register) : Type 0 where
  pub cells : cells_in r ≡ register_cells p l m fine
  pub sides : HaveSides (domain p l) (is_covered fine) (cells_in r) (sides_in r)
  pub edges : AreEdges (domain p l) m fine (edges_in r)
  pub placed : IsPlaced r

-- it was made over the same levels; entries and net flows may differ
pub record SameCells (r s : Register) : Type 0 where
  pub cells : cells_in s ≡ cells_in r
  pub sides : sides_in s ≡ sides_in r
  pub edges : SameEdges (edges_in r) (edges_in s)

-- it is the same but for its lists, which are these
pub record IsWithEdges (xs : List (List EdgeCell)) (r s : Register) : Type 0 where
  pub edges : edges_in s ≡ xs
  pub cells : cells_in s ≡ cells_in r
  pub sides : sides_in s ≡ sides_in r
  pub entries : (c : Cell) → entry_in s c ≡ entry_in r c
