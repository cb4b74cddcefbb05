-- What the piece of a task means: what it posts and what its patches become, by the fluxes of the level with the masses that the phase
-- begins with. It follows from the piece as it is handed in, before any frame is filled.
use Rattle.std.specs.Prelude.{◌≡◌, ◌≢◌, ℕ, ◌<◌, List, [], length, map, slice_index, slice_index_or, unsigned_abs, IsTrue}
use Rattle.std.specs.declared.option.Option.{Option}
use Rattle.std.specs.declared.option.Option.TheVariants.{None, Some}
use Rattle.std.specs.declared.snapshot.Snapshot.{Snapshot}
use Rattle.std.specs.List.{All, AllZip, flat_map, range_with_len}
use Rattle.amr_box.specs.declared.Cell.{Cell}
use Rattle.amr_box.specs.declared.Face.{Face}
use Rattle.amr_box.specs.Cells.{holds}
use Rattle.amr_def.specs.declared.problem.Problem.{Problem}
use Rattle.amr_def.specs.Domain.{domain}
use Rattle.amr_def.specs.State.{Masses}
use Rattle.amr_def.specs.Flux.{Fluxes, flux_at, net}
use Rattle.amr_patch.specs.declared.levels.Level.{Level}
use Rattle.amr_patch.specs.declared.patches.Patch.{Patch}
use Rattle.amr_patch.specs.Patches.{box, mass_in, masses_in}
use Rattle.amr_faces.specs.Faces.{ShowsValues}
use Rattle.amr_flux.specs.Rooms.{widest}
use Rattle.amr_ghost.specs.Frames.{old_masses}
use Rattle.amr_ghost.specs.Messages.{HasPacked}
use Rattle.amr_ghost.specs.Outer.{HasOuterPlaces}
use Rattle.amr_phase.specs.declared.plan.Post.{Post}
use Rattle.amr_phase.specs.Plans.{total}
use Rattle.amr_layout.specs.declared.FlowTo.{FlowTo}
use Rattle.amr_layout.specs.declared.PatchLayout.{PatchLayout}
use Rattle.amr_layout.specs.declared.PutAt.{PutAt}
use Rattle.amr_layout.specs.Adds.{word_total}
use Rattle.amr_layout.specs.LevelFlowLists.{flow_lists}
use Rattle.amr_register.specs.declared.edges.EdgeCell.{EdgeCell}
use Rattle.amr_register.specs.CoarseFlows.{edge_flows}
use Rattle.amr_register.specs.EdgeCells.{AreEdges, IsSmallNet, SameEdges, lists_of}
use Rattle.amr_lots.specs.declared.lot.StepBasis.{StepBasis}
use Rattle.amr_lots.specs.declared.lot.Duty.{Duty}
use Rattle.amr_lots.specs.declared.lot.Duty.TheVariants.{Correct, Keep, Send, Step}
use Rattle.amr_lots.specs.declared.lot.LotStage.TheVariants.{Finished, Raw, Swept}
use Rattle.amr_lots.specs.declared.lot.Work.{Work}
use Rattle.amr_lots.specs.declared.lot.Workspace.{Workspace}
use Rattle.amr_lots.specs.FrameValues.{HasValuesBy}
use Rattle.amr_lots.specs.Lots.{IsStepped}
use Rattle.amr_lots.specs.Duties.{IsServed}

-- ---- what the phase begins with

abbrev level_in : Option (Snapshot Level) → Option Level
level_in None = None
level_in (Some k) = Some k.value

-- the masses of the level, and those of the next coarser level before its own step
abbrev pub masses_of : StepBasis → Masses
masses_of b = masses_in b.patches.value.items

abbrev pub coarser_of : StepBasis → Masses
coarser_of b = old_masses (level_in b.coarser)

-- what flows through each face of level l in the step
abbrev pub fluxes_of : StepBasis → ℕ → Fluxes
fluxes_of b l = flux_at b.problem.value l (masses_of b) (coarser_of b)

-- the same of a piece
abbrev pub flux : Work → Fluxes
flux w = fluxes_of w.basis.value w.level

abbrev pub size : Work → Face → ℕ
size w f = unsigned_abs (flux w f)

-- ---- its parts

abbrev pub patches_of : Work → List Patch
patches_of w = w.lot.value.patches.items

abbrev pub layouts_of : Work → List PatchLayout
layouts_of w = w.lot.value.workspace.layouts.items

-- the flows of its patches, a list for each
abbrev pub flows_in : Work → List (List FlowTo)
flows_in w = flow_lists w.lot.value.workspace.flows (length (patches_of w))

-- the places that its patches read, one patch after another
abbrev pub places_read : List PatchLayout → List ℕ
places_read ts = flat_map (λ (t : PatchLayout). t.border.items) ts

-- ---- its posts

abbrev pub put_by : (Face → ℕ) → PutAt → Post
put_by e x = record { at = x.place; amount = e x.face }

-- the puts of patches, one patch after another
abbrev pub puts_listed : List PatchLayout → List PutAt
puts_listed ts = flat_map (λ (t : PatchLayout). t.puts.items) ts

-- with these sizes
abbrev pub puts_by : (Face → ℕ) → List PatchLayout → List Post
puts_by e ts = map (put_by e) (puts_listed ts)

-- what flows of these sizes add to the word at a place in the list of words, all patches together
abbrev pub flows_to : (Face → ℕ) → List (List FlowTo) → ℕ → ℕ
flows_to e xss k = total (word_total e k) xss

abbrev pub adds_by : (Face → ℕ) → List ℕ → List (List FlowTo) → List Post
adds_by e words xss = map (λ k. record { at = slice_index words k; amount = flows_to e xss k }) (range_with_len 0 (length words))

abbrev pub puts_in : Duty → Work → List Post
puts_in Step w = puts_by (size w) (layouts_of w)
puts_in Send w = []
puts_in Correct w = []
puts_in Keep w = []

-- in a step, the size of what flows through each face that other lots read
abbrev pub puts_of_work : Work → List Post
puts_of_work w = puts_in w.duty w

abbrev pub adds_in : Duty → Work → List Post
adds_in Step w = adds_by (size w) w.lot.value.workspace.words.items (flows_in w)
adds_in Send w = []
adds_in Correct w = []
adds_in Keep w = []

-- and the sum of what flows to each of its words
abbrev pub adds_of_work : Work → List Post
adds_of_work w = adds_in w.duty w

-- ---- what becomes of it in a step

-- a patch that waits for what it reads: it has its masses of before, and its frame is filled
pub record IsWaiting (p : Problem) (l : ℕ) (m old : Masses) (q r : Patch) : Type 0 where
  pub of_box : box r ≡ box q
  pub masses : (c : Cell) → IsTrue (holds (box q) c) → mass_in r c ≡ mass_in q c
  pub shows : ShowsValues p l m old r

-- in a swept lot, a patch waits where it reads a place; else it has its new masses
pub record IsSwept (p : Problem) (l : ℕ) (m old : Masses) (t : PatchLayout) (q r : Patch) : Type 0 where
  pub inner : length t.border.items ≡ 0 → IsStepped (flux_at p l m old) q r
  pub waits : 0 < length t.border.items → IsWaiting p l m old q r

-- what a workspace keeps in each phase
pub record KeepsLayout (a b : Workspace) : Type 0 where
  pub layouts : b.layouts ≡ a.layouts
  pub flows : b.flows ≡ a.flows
  pub sides : b.sides ≡ a.sides
  pub words : b.words ≡ a.words
  pub totals : length b.totals.items ≡ length a.totals.items
  pub copies : b.copies ≡ a.copies
  pub spans : b.outer.spans ≡ a.outer.spans
  pub coarser : b.outer.coarser ≡ a.outer.coarser
  pub inbox : b.inbox ≡ a.inbox
  pub room : widest b.room ≡ widest a.room
  pub sizes : length b.sizes.items ≡ length a.sizes.items

-- what the level's fluxes carry into the register cells of a lot over a finer level with any masses
pub record HasFoundNets (w v : Work) : Type 0 where
  pub same : SameEdges (lists_of w.lot.value.edges.items) (lists_of v.lot.value.edges.items)
  pub small : All (All IsSmallNet) (lists_of v.lot.value.edges.items)
  pub nets : (fine : Masses) → AreEdges (domain w.basis.value.problem.value w.level) (masses_of w.basis.value) fine (lists_of w.lot.value.edges.items)
      → All (All (λ (c : EdgeCell). c.net
      ≡ net (edge_flows w.basis.value.problem.value w.level (masses_of w.basis.value) (coarser_of w.basis.value) fine) c.cell))
      (lists_of v.lot.value.edges.items)

-- a lot on its way through a step, from a raw piece w: its patches are swept, or all have their new masses and the messages for other lots
-- carry those. The values of its outer ghost cells are there, and what flows into its register cells over a finer level is known.
pub record IsUnderWay (w v : Work) : Type 0 where
  pub begun : v.stage ≢ Raw
  pub layout : KeepsLayout w.lot.value.workspace v.lot.value.workspace
  pub before : v.lot.value.before ≡ w.lot.value.before
  pub correction : v.lot.value.correction ≡ w.lot.value.correction
  pub places : HasOuterPlaces v.lot.value.workspace.outer
  pub values : HasValuesBy w.basis.value.problem.value w.level (coarser_of w.basis.value) v.lot.value.workspace.outer
  pub count : length (patches_of v) ≡ length (patches_of w)
  pub swept : v.stage ≡ Swept → (k : ℕ) (q : Patch) (t : PatchLayout) → k < length (patches_of w)
      → IsSwept w.basis.value.problem.value w.level (masses_of w.basis.value) (coarser_of w.basis.value) (slice_index_or (layouts_of w) k t)
      (slice_index_or (patches_of w) k q) (slice_index_or (patches_of v) k q)
  pub finished : v.stage ≡ Finished → AllZip (IsStepped (flux w)) (patches_of w) (patches_of v)
  pub edges : HasFoundNets w v
  pub unsent : v.stage ≡ Swept → v.lot.value.workspace.outbox ≡ w.lot.value.workspace.outbox
  pub sent : v.stage ≡ Finished → AllZip (HasPacked (patches_of v)) w.lot.value.workspace.outbox.items v.lot.value.workspace.outbox.items

-- ---- what the piece of a task may become

-- all but the lot and the stage of a piece is as before
pub record KeepsTask (w v : Work) : Type 0 where
  pub task : v.task ≡ w.task
  pub level : v.level ≡ w.level
  pub duty : v.duty ≡ w.duty
  pub basis : v.basis ≡ w.basis

abbrev pub StandsForIn : Duty → Work → Work → Type 0
StandsForIn Step w v = IsUnderWay w v
StandsForIn Send w v = (v.stage ≡ Finished) × IsServed Send w.lot.value v.lot.value
StandsForIn Correct w v = (v.stage ≡ Finished) × IsServed Correct w.lot.value v.lot.value
StandsForIn Keep w v = (v.stage ≡ Finished) × IsServed Keep w.lot.value v.lot.value

-- piece v is piece w, which was handed in, at work or done
pub record StandsFor (w v : Work) : Type 0 where
  pub keeps : KeepsTask w v
  pub does : StandsForIn w.duty w v
