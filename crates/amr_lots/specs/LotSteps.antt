-- What the parts of a lot's step need, and what they leave.
use Rattle.std.specs.Prelude.{◌≡◌, ℕ, ◌+◌, ◌<◌, ◌≤◌, ◌^◌, List, length, slice_index, slice_index_or, take, drop, unsigned_abs, IsTrue}
use Rattle.std.specs.Global.{Vec}
use Rattle.std.specs.List.{All, AllZip}
use Rattle.amr_box.specs.declared.Face.{Face}
use Rattle.amr_box.specs.Cells.{width}
use Rattle.amr_def.specs.declared.problem.Problem.{Problem}
use Rattle.amr_patch.specs.declared.patches.Patch.{Patch}
use Rattle.amr_patch.specs.Places.{is_edge_face}
use Rattle.amr_patch.specs.Patches.{box, flux_in}
use Rattle.amr_faces.specs.Faces.{flux_beside}
use Rattle.amr_faces.specs.Faces.{masked_faces}
use Rattle.amr_flux.specs.Rooms.{widest}
use Rattle.amr_flux.specs.declared.fluxes.PatchSides.{PatchSides}
use Rattle.amr_phase.specs.declared.plan.Post.{Post}
use Rattle.amr_phase.specs.Plans.{no_post}
use Rattle.amr_layout.specs.declared.PatchLayout.{PatchLayout}
use Rattle.amr_layout.specs.declared.PutAt.{PutAt}
use Rattle.amr_layout.specs.LevelFlowLists.{flow_lists}
use Rattle.amr_register.specs.declared.edges.EdgeCell.{EdgeCell}
use Rattle.amr_register.specs.EdgeCells.{HaveNets, IsSmallNet, lists_of}
use Rattle.amr_lots.specs.declared.lot.Lot.{Lot}
use Rattle.amr_lots.specs.declared.lot.Workspace.{Workspace}
use Rattle.amr_lots.specs.FrameValues.{AreFilled, HasFoundOuter}
use Rattle.amr_lots.specs.Lots.{HasStepped, IsSweptOn, MayStep, lot_total}
use Rattle.amr_lots.specs.Duties.{HasSent}
use Rattle.amr_lots.specs.Works.{places_read, put_by, puts_by}

-- ---- frames filled, and what follows by them

-- what flows into register cells over a finer level was worked out by filled frames; no lists are none afterwards
pub record HaveEdgeNets (p : Problem) (l : ℕ) (fs : List Patch) (before after : List (Vec EdgeCell)) : Type 0 where
  pub none : length before ≡ 0 → after ≡ before
  pub nets : 0 < length before → HaveNets p l fs (lists_of before) (lists_of after)
  pub small : All (All IsSmallNet) (lists_of after)

-- the frames of patches qs were filled, which gave fs, and what follows by those was worked out
pub record HasBegun (p : Problem) (l : ℕ) (qs fs : List Patch) (edges found : List (Vec EdgeCell)) (s after : Workspace) : Type 0 where
  pub outer : HasFoundOuter p l s.outer after.outer
  pub filled : AreFilled s after.outer qs fs
  pub nets : HaveEdgeNets p l fs edges found
  pub room : widest after.room ≡ widest s.room
  pub count : length after.totals.items ≡ length s.totals.items
  pub totals : (word : ℕ) → slice_index after.totals.items word ≡ lot_total p l fs (flow_lists s.flows (length qs)) word
  pub others : after ≡ record s { outer = after.outer; totals = after.totals; room = after.room }

-- and all patches made their step by their own values and their frames
pub record HasSteppedAlone (p : Problem) (l : ℕ) (qs : List Patch) (edges : List (Vec EdgeCell)) (s : Workspace) (rs : List Patch)
    (found : List (Vec EdgeCell)) (after : Workspace) : Type 0 where
  pub filled : List Patch
  pub begun : HasBegun p l qs filled edges found s after
  pub stepped : AllZip (HasStepped p l) filled rs

-- the fluxes of each patch on its sides were worked out
pub record AreSweptOn (p : Problem) (l : ℕ) (sides : List PatchSides) (qs rs : List Patch) : Type 0 where
  pub count : length rs ≡ length qs
  pub each : (k : ℕ) (q : Patch) (d : PatchSides) → k < length qs → IsSweptOn p l (slice_index_or sides k d) (slice_index_or qs k q) (slice_index_or rs k q)

-- and all patches were swept
pub record HasSweptAll (p : Problem) (l : ℕ) (qs : List Patch) (edges : List (Vec EdgeCell)) (s : Workspace) (rs : List Patch) (found : List (Vec EdgeCell))
    (after : Workspace) : Type 0 where
  pub filled : List Patch
  pub begun : HasBegun p l qs filled edges found s after
  pub swept : AreSweptOn p l s.sides.items filled rs

-- those of a lot
pub record HasSweptLot (p : Problem) (l : ℕ) (lot after : Lot) : Type 0 where
  pub all : HasSweptAll p l lot.patches.items lot.edges.items lot.workspace after.patches.items after.edges.items after.workspace
  pub others : after ≡ record lot { patches = after.patches; edges = after.edges; workspace = after.workspace }

-- ---- posts

-- these puts are the next ones of a list of posts, of which so many were made
pub record PutsAreNext (e : Face → ℕ) (posts : List Post) (made : ℕ) (puts : List PutAt) : Type 0 where
  pub within : made + length puts ≤ length posts
  pub at : (j : ℕ) (x : PutAt) → j < length puts → slice_index_or posts (made + j) no_post ≡ put_by e (slice_index_or puts j x)

-- puts are those of patches with these layouts, by what flows through the faces of the patches
pub record ArePuts (qs : List Patch) (ts : List PatchLayout) (puts : List Post) : Type 0 where
  pub size : Face → ℕ
  pub layouts : length ts ≡ length qs
  pub are : puts ≡ puts_by size ts
  pub flows : (k : ℕ) (q : Patch) (t : PatchLayout) → k < length qs
      → All (λ (x : PutAt). IsTrue (is_edge_face (box (slice_index_or qs k q)) x.face)
      × (unsigned_abs (flux_in (slice_index_or qs k q) x.face) ≡ size x.face)) (slice_index_or ts k t).puts.items

-- adds are those of totals to words
pub record AreAdds (words totals : List ℕ) (adds : List Post) : Type 0 where
  pub totals_count : length totals ≡ length words
  pub count : length adds ≡ length words
  pub are : (k : ℕ) → k < length words → slice_index_or adds k no_post ≡ record { at = slice_index words k; amount = slice_index totals k }

-- the posts of a task are those of a lot
pub record ArePosts (lot : Lot) (puts adds : List Post) : Type 0 where
  pub has_puts : ArePuts lot.patches.items lot.workspace.layouts.items puts
  pub has_adds : AreAdds lot.workspace.words.items lot.workspace.totals.items adds

-- ---- new masses

-- a patch that reads no place, and one that waits for what it reads
abbrev pub ReadsNone : PatchLayout → Type 0
ReadsNone t = length t.border.items ≡ 0

abbrev pub ReadsSome : PatchLayout → Type 0
ReadsSome t = 0 < length t.border.items

-- patches made their step where their layouts are of one kind, and stayed where they are of the other
pub record HaveStepped (p : Problem) (l : ℕ) (Steps Stays : PatchLayout → Type 0) (ts : List PatchLayout) (qs rs : List Patch) : Type 0 where
  pub count : length rs ≡ length qs
  pub steps : (k : ℕ) (q : Patch) (t : PatchLayout) → k < length qs → Steps (slice_index_or ts k t)
      → HasStepped p l (slice_index_or qs k q) (slice_index_or rs k q)
  pub stays : (k : ℕ) (q : Patch) (t : PatchLayout) → k < length qs → Stays (slice_index_or ts k t) → slice_index_or rs k q ≡ slice_index_or qs k q

-- a patch may make its step in a room for so many columns
pub record MayStepIn (p : Problem) (l columns : ℕ) (q : Patch) : Type 0 where
  pub step : MayStep p l q
  pub room : width (box q) ≤ columns

-- those whose layouts are of one kind may
pub record CanStepWhere (p : Problem) (l columns : ℕ) (Steps : PatchLayout → Type 0) (ts : List PatchLayout) (qs : List Patch) : Type 0 where
  pub count : length ts ≡ length qs
  pub steps : (k : ℕ) (q : Patch) (t : PatchLayout) → k < length qs → Steps (slice_index_or ts k t) → MayStepIn p l columns (slice_index_or qs k q)

-- sizes are those of what flows through the faces that the mask of a patch tells
pub record AreSizesAt (p : Problem) (l : ℕ) (sizes : List ℕ) (t : PatchLayout) (q : Patch) : Type 0 where
  pub count : length sizes ≡ length (masked_faces (box q) t.mask.items)
  pub are : (j : ℕ) (f : Face) → j < length sizes
      → slice_index sizes j ≡ unsigned_abs (flux_beside p l q (slice_index_or (masked_faces (box q) t.mask.items) j f))

-- those of patch k, where they stand one patch after another
abbrev pub sizes_of : List ℕ → List PatchLayout → ℕ → PatchLayout → List ℕ
sizes_of sizes ts k t = take (length (slice_index_or ts k t).border.items) (drop (length (places_read (take k ts))) sizes)

-- the sizes of what flows through the faces that patches read, one patch after another
pub record AreSizesOf (p : Problem) (l : ℕ) (sizes : List ℕ) (ts : List PatchLayout) (qs : List Patch) : Type 0 where
  pub room : length (places_read ts) ≤ length sizes
  pub read : (k : ℕ) (q : Patch) (t : PatchLayout) → k < length qs → ReadsSome (slice_index_or ts k t)
      → AreSizesAt p l (sizes_of sizes ts k t) (slice_index_or ts k t) (slice_index_or qs k q)

-- a place that may be read: one of so many, with the size of a flow, below 2^31, and 1
pub record IsReadable (faces : ℕ → ℕ) (places place : ℕ) : Type 0 where
  pub there : place < places
  pub put : 0 < faces place
  pub small : faces place ≤ 2 ^ 31

-- ---- the same of a lot, which keeps all else

-- it has room for what its patches read, and each place may be read
pub record CanRead (faces : ℕ → ℕ) (places : ℕ) (lot : Lot) : Type 0 where
  pub room : length (places_read lot.workspace.layouts.items) ≤ length lot.workspace.sizes.items
  pub readable : All (IsReadable faces places) (places_read lot.workspace.layouts.items)

-- nothing but its sizes may have changed
pub record KeepsButSizes (lot after : Lot) : Type 0 where
  pub count : length after.workspace.sizes.items ≡ length lot.workspace.sizes.items
  pub others : after ≡ record lot { workspace = record lot.workspace { sizes = after.workspace.sizes } }

-- its sizes are what stands at the places that its patches read, less 1
abbrev pub HasRead : (ℕ → ℕ) → Lot → Type 0
HasRead faces lot =
    (k : ℕ) → k < length (places_read lot.workspace.layouts.items)
    → faces (slice_index (places_read lot.workspace.layouts.items) k) ≡ slice_index lot.workspace.sizes.items k + 1

pub record HasSteppedWhere (p : Problem) (l : ℕ) (Steps Stays : PatchLayout → Type 0) (lot after : Lot) : Type 0 where
  pub patches : HaveStepped p l Steps Stays lot.workspace.layouts.items lot.patches.items after.patches.items
  pub room : widest after.workspace.room ≡ widest lot.workspace.room
  pub others : after ≡ record lot { patches = after.patches; workspace = record lot.workspace { room = after.workspace.room } }

abbrev pub CanStepInner : Problem → ℕ → Lot → Type 0
CanStepInner p l lot = CanStepWhere p l (widest lot.workspace.room) ReadsNone lot.workspace.layouts.items lot.patches.items

abbrev pub CanStepBorder : Problem → ℕ → Lot → Type 0
CanStepBorder p l lot =
    CanStepWhere p l (widest lot.workspace.room) ReadsSome lot.workspace.layouts.items lot.patches.items
    × AreSizesOf p l lot.workspace.sizes.items lot.workspace.layouts.items lot.patches.items

-- a swept lot was finished: the patches that wait made their step, and then what other lots need was packed
pub record HasFinishedLot (p : Problem) (l : ℕ) (lot after : Lot) : Type 0 where
  pub stepped : Lot
  pub steps : HasSteppedWhere p l ReadsSome ReadsNone lot stepped
  pub sends : HasSent stepped after
