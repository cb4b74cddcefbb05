-- Laws of the edges of a level's patches, each of which a call of this crate ensures.
use Rattle.std.specs.Prelude.{◌≡◌, ℕ, suc, ◌<◌, ◌≤◌, List, [], length, map, slice_index, slice_index_or, IsTrue}
use Rattle.std.specs.declared.option.Option.{Option}
use Rattle.std.specs.List.{All, flat_map}
use Rattle.std.specs.List.Sorted.{IsPermutation}
use Rattle.amr_box.specs.declared.Cell.{Cell}
use Rattle.amr_box.specs.declared.Face.{Face}
use Rattle.amr_box.specs.Cells.{Extent, IsNear}
use Rattle.amr_boxlist.specs.Chopped.{chopped}
use Rattle.amr_def.specs.declared.problem.Problem.{Problem}
use Rattle.amr_def.specs.Domain.{domain, in_domain}
use Rattle.amr_def.specs.Facts.{IsAligned, IsLevel, IsNestedLevel}
use Rattle.amr_def.specs.Flux.{flux_at}
use Rattle.amr_def.specs.State.{Level, Masses}
use Rattle.amr_patch.specs.declared.levels.Level.{Level as Held}
use Rattle.amr_patch.specs.declared.patches.Patch.{Patch}
use Rattle.amr_patch.specs.Patches.{ArePatchesApart, box, in_patches, masses_in}
use Rattle.amr_patch.specs.Places.{is_edge_face}
use Rattle.amr_faces.specs.Faces.{IsInDomain}
use Rattle.amr_register.specs.RegisterCells.{register_cells}
use Rattle.amr_layout.specs.declared.FlowTo.{FlowTo}
use Rattle.amr_layout.specs.declared.PutAt.{PutAt}
use Rattle.amr_layout.specs.Adds.{HasRegisterCells, flows_of}
use Rattle.amr_layout.specs.Places.{border_places, borders_of, home_face, puts_of}
use Rattle.amr_layout.specs.Surroundings.{Around, around}
use Rattle.amr_flows.specs.Borders.{IsPut}
use Rattle.amr_transfer.specs.Sums.{AreCoarsenable}

-- ---- what a layout has patches put and add

-- each put of a patch of a level is of a face on the patch's edges
abbrev pub PutsAreOnEdges : Type 0
PutsAreOnEdges = (p : Problem) (l : ℕ) (ps : List Patch) (each : ℕ) → l ≤ 4 → ArePatchesApart ps → All (λ q. IsInDomain (domain p l) (box q)) ps
    → All (λ q. All (λ (u : PutAt). IsTrue (is_edge_face (box q) u.face)) (puts_of (domain p l) ps each (box q))) ps

-- so is each flow to a word
abbrev pub FlowsAreOnEdges : Type 0
FlowsAreOnEdges = (s : Around) (b : Extent) → IsNear b → All (λ (x : FlowTo). IsTrue (is_edge_face b x.face)) (flows_of s b)

-- patch i reads border face k at a place where a patch of the level puts the face that this one stands for
abbrev pub BordersArePut : Type 0
BordersArePut =
    (p : Problem) (l : ℕ) (ps : List Patch) (each i k : ℕ) (q : Patch) (f : Face) → i < length ps
    → k < length (borders_of (domain p l) ps each (box (slice_index_or ps i q)))
    → IsPut (domain p l) ps each (slice_index (border_places (domain p l) ps each i) k)
    (home_face (domain p l) (slice_index_or (borders_of (domain p l) ps each (box (slice_index_or ps i q))) k f))

-- and one flux is through a face and through the face that it stands for
abbrev pub FluxesRepeat : Type 0
FluxesRepeat = (p : Problem) (l : ℕ) (m old : Masses) (f : Face) → l ≤ 4 → flux_at p l m old (home_face (domain p l) f) ≡ flux_at p l m old f

-- ---- register cells

-- the register cells of a level k stand in order, and are all that lie across the coarse-fine edges of the patches ps of the
-- next finer level (Berger and Colella: the cells of the coarse grid along the boundary of the fine one)
abbrev pub RegistersServeLayouts : Type 0
RegistersServeLayouts =
    (p : Problem) (l : ℕ) (k fine : Level) (ps : List Patch) (finer : Option Held) → IsLevel p l k → IsLevel p (suc l) fine → IsNestedLevel p l k fine
    → masses_in ps ≡ fine.masses
    → HasRegisterCells (around p (suc l) ps (register_cells p l k.masses fine.masses) finer)

-- level 0 is the whole domain, so that it has no coarse-fine edge
abbrev pub BaseHasNoRegisterCells : Type 0
BaseHasNoRegisterCells =
    (p : Problem) (ps : List Patch) (finer : Option Held) → ((c : Cell) → IsTrue (in_domain (domain p 0) c) → IsTrue (in_patches ps c))
    → HasRegisterCells (around p 0 ps [] finer)

-- ---- patches of a level above level 0

-- no patch cuts a cell of the coarser level, where the boxes are aligned and the patch boxes are their parts, in any order
-- (AMReX: coarsenable)
abbrev pub PatchesAreCoarsenable : Type 0
PatchesAreCoarsenable =
    (p : Problem) (boxes : List Extent) (ps : List Patch) → All (IsAligned p.blocking) boxes
    → IsPermutation (flat_map (chopped p.max_grid_size) boxes) (map box ps) → AreCoarsenable ps
