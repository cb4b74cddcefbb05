-- What a lot has to be before its task is drawn, and before it is finished.
use Rattle.std.specs.Prelude.{◌≡◌, ℕ, ◌+◌, ◌<◌, ◌≤◌, ◌^◌, true, List, length, map, slice_index, slice_index_or, unsigned_abs, IsTrue, Some, ◌⊎◌}
use Rattle.std.specs.Global.{Vec}
use Rattle.std.specs.List.{All, AllZip}
use Rattle.amr_box.specs.declared.Cell.{Cell}
use Rattle.amr_box.specs.declared.Face.{Face}
use Rattle.amr_box.specs.Cells.{Extent, holds, width}
use Rattle.amr_def.specs.declared.problem.Problem.{Problem}
use Rattle.amr_def.specs.Domain.{domain}
use Rattle.amr_def.specs.State.{Masses}
use Rattle.amr_def.specs.Flux.{Fluxes, flux_at}
use Rattle.amr_patch.specs.declared.patches.Patch.{Patch}
use Rattle.amr_patch.specs.Places.{is_edge_face}
use Rattle.amr_patch.specs.Patches.{box, mass_in}
use Rattle.amr_faces.specs.Faces.{IsInDomain, ShowsValues}
use Rattle.amr_faces.specs.Faces.{masked_faces}
use Rattle.amr_flux.specs.Rooms.{widest}
use Rattle.amr_flux.specs.PatchSides.{includes, side_of}
use Rattle.amr_flux.specs.declared.fluxes.PatchSides.{PatchSides}
use Rattle.amr_ghost.specs.declared.outer.OuterGhosts.{OuterGhosts}
use Rattle.amr_phase.specs.Plans.{PlanOf, planned_face}
use Rattle.amr_board.specs.Ended.{EndedOf, face_of}
use Rattle.amr_layout.specs.declared.FlowTo.{FlowTo}
use Rattle.amr_layout.specs.declared.level_flows.LevelFlows.{LevelFlows}
use Rattle.amr_layout.specs.declared.PatchLayout.{PatchLayout}
use Rattle.amr_layout.specs.declared.PutAt.{PutAt}
use Rattle.amr_layout.specs.LevelFlowLists.{HasFlowsAt, flow_lists, flows_at}
use Rattle.amr_register.specs.declared.edges.EdgeCell.{EdgeCell}
use Rattle.amr_register.specs.EdgeCells.{AreEdgesIn, lists_of}
use Rattle.amr_lots.specs.declared.lot.Duty.{Duty}
use Rattle.amr_lots.specs.declared.lot.Duty.TheVariants.{Correct, Keep, Send, Step}
use Rattle.amr_lots.specs.declared.lot.LotStage.TheVariants.{Finished, Raw, Swept}
use Rattle.amr_lots.specs.declared.lot.Work.{Work}
use Rattle.amr_lots.specs.declared.lot.Workspace.{Workspace}
use Rattle.amr_lots.specs.FrameValues.{AreFilled, CanFill, HasFoundOuter, HasValuesOrLevel}
use Rattle.amr_lots.specs.Lots.{AreEdgeFlows, AreReady, LevelStepFits, LieOn, MayStep}
use Rattle.amr_lots.specs.Duties.{MaySend, MayServe}
use Rattle.amr_lots.specs.Works.{coarser_of, flows_in, flows_to, flux, layouts_of, masses_of, patches_of, places_read, size}

-- ---- patches and a workspace

-- lists of register cells, one for each patch, or none where there is no finer level
abbrev pub HasEdges : List Patch → List (Vec EdgeCell) → Type 0
HasEdges qs edges = 0 < length edges → AllZip AreEdgesIn (map box qs) (lists_of edges)

-- these are the flows of each patch, and the sides that they lie on
pub record HasFlowsIn (v : LevelFlows) (sides : List PatchSides) (qs : List Patch) : Type 0 where
  pub there : (k : ℕ) → k < length qs → HasFlowsAt v k
  pub count : length sides ≡ length qs
  pub lie : (k : ℕ) (q : Patch) (d : PatchSides) → k < length qs → LieOn (slice_index_or sides k d) (box (slice_index_or qs k q)) (flows_at v k)

-- patches of level l whose frames can be filled by a workspace, and which may then make their step
pub record CanStep (p : Problem) (l : ℕ) (qs : List Patch) (edges : List (Vec EdgeCell)) (s : Workspace) : Type 0 where
  pub inside : All (λ q. IsInDomain (domain p l) (box q)) qs
  pub fill : CanFill p l qs s
  pub lists : HasEdges qs edges
  pub flows : HasFlowsIn s.flows s.sides.items qs
  pub ready : (x : OuterGhosts) (fs : List Patch) → HasFoundOuter p l s.outer x → AreFilled s x qs fs
      → AreReady p l (widest s.room) (length s.totals.items) fs (flow_lists s.flows (length qs))

-- ---- what is put and read

-- puts of what flows through faces on the edges of a box, on these sides
abbrev pub ArePutsOn : PatchSides → Extent → List PutAt → Type 0
ArePutsOn s b = All (λ (x : PutAt). IsTrue (is_edge_face b x.face) × (includes s (side_of b x.face) ≡ true))

-- a patch with this box reads a place for each face that its mask tells. There stands the size of what flows through that face, and 1.
pub record ReadsBorder (faces : ℕ → ℕ) (places : ℕ) (e : Fluxes) (b : Extent) (t : PatchLayout) : Type 0 where
  pub count : length t.border.items ≡ length (masked_faces b t.mask.items)
  pub within : All (λ place. place < places) t.border.items
  pub sizes : (j : ℕ) (f : Face) → j < length t.border.items
      → faces (slice_index t.border.items j) ≡ unsigned_abs (e (slice_index_or (masked_faces b t.mask.items) j f)) + 1

-- ---- before its task is drawn

-- a workspace for the patches of a lot
pub record ServesLot (s : Workspace) (qs : List Patch) : Type 0 where
  pub layouts : length s.layouts.items ≡ length qs
  pub words : length s.words.items ≡ length s.totals.items
  pub sizes : length (places_read s.layouts.items) ≤ length s.sizes.items
  pub room : All (λ q. width (box q) ≤ widest s.room) qs
  pub flows : HasFlowsIn s.flows s.sides.items qs
  pub to_words : (k : ℕ) → k < length qs → All (λ (x : FlowTo). x.word < length s.words.items) (flows_at s.flows k)
  pub puts : (k : ℕ) (q : Patch) (t : PatchLayout) (d : PatchSides) → k < length qs
      → ArePutsOn (slice_index_or s.sides.items k d) (box (slice_index_or qs k q)) (slice_index_or s.layouts.items k t).puts.items

-- a piece whose lot may make its step, beside others whose puts are planned
pub record MayStepBeside (plan : PlanOf) (w : Work) : Type 0 where
  pub inside : All (λ q. IsInDomain (domain w.basis.value.problem.value w.level) (box q)) (patches_of w)
  pub numbers : LevelStepFits w.basis.value.problem.value w.level (masses_of w.basis.value) (coarser_of w.basis.value)
  pub of_level : All (λ q. (c : Cell) → IsTrue (holds (box q) c) → masses_of w.basis.value c ≡ Some (mass_in q c)) (patches_of w)
  pub fill : CanFill w.basis.value.problem.value w.level (patches_of w) w.lot.value.workspace
  pub values : HasValuesOrLevel w.basis.value.problem.value w.level (coarser_of w.basis.value) w.lot.value.workspace.outer
  pub shows : (x : OuterGhosts) (fs : List Patch) → HasFoundOuter w.basis.value.problem.value w.level w.lot.value.workspace.outer x
      → AreFilled w.lot.value.workspace x (patches_of w) fs
      → All (ShowsValues w.basis.value.problem.value w.level (masses_of w.basis.value) (coarser_of w.basis.value)) fs × AllZip AreEdgeFlows fs (flows_in w)
  pub edges : HasEdges (patches_of w) w.lot.value.edges.items
  pub serves : ServesLot w.lot.value.workspace (patches_of w)
  pub totals : (k : ℕ) → flows_to (size w) (flows_in w) k < 2 ^ 63
  pub borders : (k : ℕ) (q : Patch) (t : PatchLayout) → k < length (patches_of w)
      → ReadsBorder (planned_face plan) plan.places (flux w) (box (slice_index_or (patches_of w) k q)) (slice_index_or (layouts_of w) k t)
  pub sends : MaySend w.lot.value

abbrev pub MayBeginIn : Duty → PlanOf → Work → Type 0
MayBeginIn Step plan w = MayStepBeside plan w
MayBeginIn Send plan w = MayServe Send w.lot.value
MayBeginIn Correct plan w = MayServe Correct w.lot.value
MayBeginIn Keep plan w = MayServe Keep w.lot.value

-- a raw piece of this problem that may be worked on
pub record MayBegin (p : Problem) (plan : PlanOf) (w : Work) : Type 0 where
  pub problem : w.basis.value.problem.value ≡ p
  pub raw : w.stage ≡ Raw
  pub duty : MayBeginIn w.duty plan w

-- ---- before it is finished

-- a patch that waits for what it reads, where that is planned
pub record MayUpdate (p : Problem) (l columns : ℕ) (m old : Masses) (faces : ℕ → ℕ) (places : ℕ) (t : PatchLayout) (q : Patch) : Type 0 where
  pub step : MayStep p l q
  pub room : width (box q) ≤ columns
  pub shows : ShowsValues p l m old q
  pub border : ReadsBorder faces places (flux_at p l m old) (box q) t

-- a swept piece of this problem whose patches that wait can make their step by what stands at so many places
pub record MayFinish (p : Problem) (faces : ℕ → ℕ) (places : ℕ) (w : Work) : Type 0 where
  pub swept : w.stage ≡ Swept
  pub problem : w.basis.value.problem.value ≡ p
  pub count : length (layouts_of w) ≡ length (patches_of w)
  pub sizes : length (places_read (layouts_of w)) ≤ length w.lot.value.workspace.sizes.items
  pub waits : (k : ℕ) (q : Patch) (t : PatchLayout) → k < length (patches_of w) → 0 < length (slice_index_or (layouts_of w) k t).border.items
      → MayUpdate p w.level (widest w.lot.value.workspace.room) (masses_of w.basis.value) (coarser_of w.basis.value) faces places
      (slice_index_or (layouts_of w) k t) (slice_index_or (patches_of w) k q)
  pub sends : MaySend w.lot.value

-- a piece that is finished, or can be by what stands at the places of this closed board
abbrev pub MayComplete : Problem → EndedOf Work → Work → Type 0
MayComplete p ended w = (w.stage ≡ Finished) ⊎ MayFinish p (face_of ended) ended.places w
