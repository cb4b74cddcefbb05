-- The register cells of each patch of a level, and what flows into them through their coarse-fine edges by the patch's values.
use Rattle.std.specs.Prelude.{◌≡◌, ℕ, ◌^◌, ◌<◌, Bool, cond, ℤ, pos, ◌+ℤ◌, ◌-ℤ◌, List, [], length, map, slice_index_or, unsigned_abs, IsTrue}
use Rattle.std.specs.List.{All, AllZip}
use Rattle.std.specs.Global.{Vec}
use Rattle.amr_box.specs.declared.Cell.{Cell}
use Rattle.amr_box.specs.declared.Face.{Face}
use Rattle.amr_box.specs.declared.Axis.TheVariants.{X, Y}
use Rattle.amr_box.specs.Cells.{Extent, holds}
use Rattle.amr_def.specs.declared.problem.Problem.{Problem}
use Rattle.amr_def.specs.Domain.{Domain}
use Rattle.amr_def.specs.State.{Masses, is_covered}
use Rattle.amr_patch.specs.declared.patches.Patch.{Patch}
use Rattle.amr_faces.specs.Faces.{flux_beside}
use Rattle.amr_register.specs.declared.sides.CoveredSides.{CoveredSides}
use Rattle.amr_register.specs.declared.edges.EdgeCell.{EdgeCell}
use Rattle.amr_register.specs.RegisterCells.{is_register_cell}
use Rattle.amr_register.specs.Beside.{HasSides}
use Rattle.amr_register.specs.CoarseFlows.{high_face, low_face}

-- the lists that vectors have
abbrev pub lists_of : List (Vec EdgeCell) → List (List EdgeCell)
lists_of vs = map (λ v. v.items) vs

-- ---- what flows in

-- the flow through a face by the values of a patch, if it counts
abbrev pub flow_if : Problem → ℕ → Patch → Bool → Face → ℤ
flow_if p l q counts f = cond counts (flux_beside p l q f) (pos 0)

-- what flows into a cell through its faces on these sides, by the values of the patch that has the cell
abbrev pub net_beside : Problem → ℕ → Patch → CoveredSides → Cell → ℤ
net_beside p l q s c =
    (flow_if p l q s.west (low_face X c) -ℤ flow_if p l q s.east (high_face X c))
    +ℤ (flow_if p l q s.south (low_face Y c) -ℤ flow_if p l q s.north (high_face Y c))

-- an edge cell of a patch before its net flow is worked out, and after
pub record HasNet (p : Problem) (l : ℕ) (q : Patch) (a b : EdgeCell) : Type 0 where
  pub cell : b.cell ≡ a.cell
  pub sides : b.sides ≡ a.sides
  pub number : b.number ≡ a.number
  pub net : b.net ≡ net_beside p l q a.sides a.cell

-- the same of the list of each patch
pub record HaveNets (p : Problem) (l : ℕ) (qs : List Patch) (before after : List (List EdgeCell)) : Type 0 where
  pub before_count : length before ≡ length qs
  pub after_count : length after ≡ length qs
  pub each : (k : ℕ) (q : Patch) → k < length qs → AllZip (HasNet p l (slice_index_or qs k q)) (slice_index_or before k []) (slice_index_or after k [])

-- four flows, each below 2^32, give no more
abbrev pub IsSmallNet : EdgeCell → Type 0
IsSmallNet e = unsigned_abs e.net < 2 ^ 34

-- ---- the lists of a register

-- the cells lie in a box
abbrev pub AreEdgesIn : Extent → List EdgeCell → Type 0
AreEdgesIn b es = All (λ e. IsTrue (holds b e.cell)) es

-- a register cell of a level with masses m beside the next finer one, where d is its domain, and the sides where covered cells lie
pub record IsEdge (d : Domain) (m fine : Masses) (e : EdgeCell) : Type 0 where
  pub cell : IsTrue (is_register_cell d m fine e.cell)
  pub sides : HasSides d (is_covered fine) e.cell e.sides

abbrev pub AreEdges : Domain → Masses → Masses → List (List EdgeCell) → Type 0
AreEdges d m fine xs = All (All (IsEdge d m fine)) xs

-- the same cell with the same sides and number; the net flows may differ
pub record IsSameEdge (a b : EdgeCell) : Type 0 where
  pub cell : b.cell ≡ a.cell
  pub sides : b.sides ≡ a.sides
  pub number : b.number ≡ a.number

-- place by place
abbrev pub SameEdges : List (List EdgeCell) → List (List EdgeCell) → Type 0
SameEdges xs ys = AllZip (AllZip IsSameEdge) xs ys

-- ---- numbers

-- its number is that of its cell among these
pub record IsNumbered (cs : List Cell) (e : EdgeCell) : Type 0 where
  pub inside : e.number < length cs
  pub cell : (c : Cell) → e.cell ≡ slice_index_or cs e.number c

-- so it is one of these cells, with the sides at its number
pub record IsAmong (cs : List Cell) (ss : List CoveredSides) (e : EdgeCell) : Type 0 where
  pub numbered : IsNumbered cs e
  pub sides : (s : CoveredSides) → e.sides ≡ slice_index_or ss e.number s

-- cell k with its sides, before anything is worked out for it
abbrev pub new_edge : ℕ → Cell → CoveredSides → EdgeCell
new_edge k c s = record { cell = c; sides = s; number = k; net = pos 0 }

-- ---- places in the lists

-- where a cell stands in lists: the number of its list, and its place there
pub record Place : Type 0 where
  pub list : ℕ
  pub at : ℕ

-- what stands at a place
abbrev pub edge_at : List (List EdgeCell) → Place → EdgeCell → EdgeCell
edge_at xs w e = slice_index_or (slice_index_or xs w.list []) w.at e

pub record IsPlaceIn (xs : List (List EdgeCell)) (w : Place) : Type 0 where
  pub list : w.list < length xs
  pub at : w.at < length (slice_index_or xs w.list [])

-- the cell with number k stands there
pub record IsPlaceOf (xs : List (List EdgeCell)) (k : ℕ) (w : Place) : Type 0 where
  pub inside : IsPlaceIn xs w
  pub number : (e : EdgeCell) → (edge_at xs w e).number ≡ k

-- the cell with number k has a place
pub record IsListed (xs : List (List EdgeCell)) (k : ℕ) : Type 0 where
  pub place : Place
  pub has : IsPlaceOf xs k place

abbrev pub number_of : EdgeCell → ℕ
number_of e = e.number

abbrev pub cell_of : EdgeCell → Cell
cell_of e = e.cell

-- each key, as a number or a cell, has one place
abbrev pub AreOnceBy : {K : Type 0} → (EdgeCell → K) → List (List EdgeCell) → Type 0
AreOnceBy key xs = (v w : Place) (e : EdgeCell) → IsPlaceIn xs v → IsPlaceIn xs w → key (edge_at xs v e) ≡ key (edge_at xs w e) → v ≡ w

-- these cells stand in the lists by their numbers, each once, and no others
pub record HaveEachOnce (cs : List Cell) (xs : List (List EdgeCell)) : Type 0 where
  pub numbered : All (All (IsNumbered cs)) xs
  pub listed : (k : ℕ) → k < length cs → IsListed xs k
  pub once : AreOnceBy number_of xs
