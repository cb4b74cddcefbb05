-- The lots of a level: runs of its patches, each with what a worker needs. They go by boxes alone, but for what they keep of masses.
use Rattle.std.specs.Prelude.{◌≡◌, ◌≢◌, ℕ, ◌+◌, ◌*◌, ◌^◌, ◌<◌, ◌≤◌, Bool, true, false, nat_lt, List, [], ◌∷◌, length, map, slice_index_or}
use Rattle.std.specs.declared.option.Option.TheVariants.{None}
use Rattle.std.specs.Global.{Box, Vec}
use Rattle.std.specs.List.{All, AllZip}
use Rattle.amr_box.specs.declared.Face.{Face}
use Rattle.amr_box.specs.Cells.{Extent, width}
use Rattle.amr_def.specs.Domain.{Domain}
use Rattle.amr_def.specs.State.{Masses}
use Rattle.amr_def.specs.declared.problem.Problem.{Problem}
use Rattle.amr_flux.specs.Rooms.{widest}
use Rattle.amr_flux.specs.PatchSides.{includes, side_of}
use Rattle.amr_flux.specs.declared.fluxes.PatchSides.{PatchSides}
use Rattle.amr_ghost.specs.Messages.{CarriesMasses, HasPlaces}
use Rattle.amr_ghost.specs.Outer.{HasOuterPlaces}
use Rattle.amr_ghost.specs.Parts.{IsParted}
use Rattle.amr_ghost.specs.Plans.{PlansFrames}
use Rattle.amr_ghost.specs.declared.messages.Message.{Message}
use Rattle.amr_ghost.specs.declared.parts.FrameCopy.{FrameCopy}
use Rattle.amr_ghost.specs.declared.parts.FrameParts.{FrameParts}
use Rattle.amr_ghost.specs.declared.plan.FramePlan.{FramePlan}
use Rattle.amr_ghost.specs.declared.sources.GhostSpan.{GhostSpan}
use Rattle.amr_layout.specs.declared.FlowTo.{FlowTo}
use Rattle.amr_layout.specs.declared.PatchLayout.{PatchLayout}
use Rattle.amr_layout.specs.declared.PutAt.{PutAt}
use Rattle.amr_layout.specs.Adds.{flows_of}
use Rattle.amr_layout.specs.LevelFlowLists.{AreFlowsOf, flow_lists}
use Rattle.amr_layout.specs.Arounds.{all_borders, all_places_read, all_puts}
use Rattle.amr_layout.specs.PartFlows.{AreNumbered, AreOnce}
use Rattle.amr_layout.specs.Places.{HasMask}
use Rattle.amr_layout.specs.Posts.{AreSmallSizes, patch_plan}
use Rattle.amr_layout.specs.Surroundings.{Around, domain_around, edge_count}
use Rattle.amr_lots.specs.declared.lot.Lot.{Lot}
use Rattle.amr_lots.specs.declared.lot.Workspace.{Workspace}
use Rattle.amr_lots.specs.FrameValues.{HasValuesBy}
use Rattle.amr_lots.specs.Ready.{HasFlowsIn}
use Rattle.amr_lots.specs.Runs.{lot_count, run}
use Rattle.amr_lots.specs.Works.{places_read}
use Rattle.amr_patch.specs.declared.patches.Patch.{Patch}
use Rattle.amr_patch.specs.Patches.{box}
use Rattle.amr_phase.specs.Plans.{IsPlan, total}
use Rattle.amr_advance.specs.declared.lots.Lots.{Lots}

-- ---- where ghost cells get their values from

-- from a plan of the frames of these patches; from nowhere, where they are filled beforehand
abbrev pub PlansUnlessFilled : Bool → Domain → List Patch → FramePlan → Type 0
PlansUnlessFilled false d ps plan = PlansFrames d ps plan
PlansUnlessFilled true d ps plan = plan.spans.items ≡ []

-- ---- the workspace of a run

-- messages between run k and each other run, for the copies at these places of the parts of a plan. That between it and itself is empty.
pub record AreMessagesOf (parts : FrameParts) (place : ℕ → ℕ) (k runs : ℕ) (xs : List Message) : Type 0 where
  pub count : length xs ≡ runs
  pub copies : (t : ℕ) (m : Message) (v : Vec FrameCopy) → t < runs → t ≢ k
      → (slice_index_or xs t m).copies.items ≡ (slice_index_or parts.copies.items (place t) v).items
  pub own : (m : Message) → (slice_index_or xs k m).copies.items ≡ []
  pub places : All HasPlaces xs

-- a workspace serves run k of a level's patches, in runs of so many each, by a plan of the level's frames in parts
pub record ServesRun (s : Around) (each k runs : ℕ) (parts : FrameParts) (x : Workspace) : Type 0 where
  pub copies : (v : Vec FrameCopy) → x.copies.items ≡ (slice_index_or parts.copies.items (k * runs + k) v).items
  pub outer : (v : Vec GhostSpan) → x.outer.spans.items ≡ (slice_index_or parts.outer.items k v).items
  pub outer_places : HasOuterPlaces x.outer
  pub outbox : AreMessagesOf parts (λ t. k * runs + t) k runs x.outbox.items
  pub inbox : AreMessagesOf parts (λ u. u * runs + k) k runs x.inbox.items
  pub room : All (λ q. width (box q) ≤ widest x.room) (run each k s.patches)
  pub flows : HasFlowsIn x.flows x.sides.items (run each k s.patches)

-- the flows of its patches, a list for each, by the places of their words in a list that has each of them once
pub record HasWordsOf (s : Around) (each k : ℕ) (x : Workspace) : Type 0 where
  pub numbered : AreNumbered x.words.items (map (λ q. flows_of s (box q)) (run each k s.patches)) (flow_lists x.flows (length (run each k s.patches)))
  pub once : AreOnce x.words.items
  pub within : All (λ w. w < 2 + 2 * length s.cells) x.words.items
  pub totals : length x.totals.items ≡ length x.words.items

-- puts of what flows through faces on these sides of a box
abbrev pub PutsLieOn : PatchSides → Extent → List PutAt → Type 0
PutsLieOn d b = All (λ (x : PutAt). includes d (side_of b x.face) ≡ true)

-- what its patches put on a board and read there, where groups of so many patches are apart
pub record HasLayoutsOf (s : Around) (each k : ℕ) (x : Workspace) : Type 0 where
  pub puts : map (λ (t : PatchLayout). t.puts.items) x.layouts.items ≡ run each k (all_puts s each)
  pub borders : map (λ (t : PatchLayout). t.border.items) x.layouts.items ≡ run each k (all_places_read s each)
  pub masks : AllZip (HasMask (domain_around s) s.patches each) (run each k s.patches) x.layouts.items
  pub sides : (i : ℕ) (q : Patch) (t : PatchLayout) (d : PatchSides) → i < length (run each k s.patches)
      → PutsLieOn (slice_index_or x.sides.items i d) (box (slice_index_or (run each k s.patches) i q)) (slice_index_or x.layouts.items i t).puts.items
  pub sizes : length (places_read x.layouts.items) ≤ length x.sizes.items

-- ---- lots while no step is made

-- others stand in place of its patches, and of those that keep masses, as many, and it has an empty list of register cells for each
pub record HasOthersOf (qs : List Patch) (x : Lot) : Type 0 where
  pub count : length x.patches.items ≡ length qs
  pub before : length x.before.items ≡ length qs
  pub edges : length x.edges.items ≡ length qs
  pub no_edges : All (λ v. v.items ≡ []) x.edges.items

-- the lot of run k
pub record IsLotOf (s : Around) (each k runs : ℕ) (parts : FrameParts) (x : Lot) : Type 0 where
  pub serves : ServesRun s each k runs parts x.workspace
  pub words : HasWordsOf s each k x.workspace
  pub layouts : HasLayoutsOf s each k x.workspace
  pub others : HasOthersOf (run each k s.patches) x

-- a lot that is all of its level: no patches stand in it, its flows are those of the level, and it has a total for each word
pub record IsWholeLot (s : Around) (each : ℕ) (parts : FrameParts) (x : Lot) : Type 0 where
  pub serves : ServesRun s each 0 1 parts x.workspace
  pub flows : AreFlowsOf s x.workspace.flows
  pub words : All (λ (y : FlowTo). y.word < 2 + 2 * length s.cells) x.workspace.flows.flows.items
  pub totals : length x.workspace.totals.items ≡ 2 + 2 * length s.cells

-- several lots, one for each run
pub record AreSeveralLots (s : Around) (parts : FrameParts) (t : Lots) : Type 0 where
  pub tight : length t.lots.items * t.each < length s.patches + t.each
  pub places : t.shape.places ≡ length (all_borders s t.each)
  pub words : t.shape.words ≡ 2 + 2 * length s.cells
  pub totals : length t.totals.items ≡ t.shape.words
  pub plan : (size : Face → ℕ) → AreSmallSizes size → IsPlan (patch_plan s t.each size)
  pub lots : (k : ℕ) (x : Box Lot) → k < length t.lots.items → IsLotOf s t.each k (length t.lots.items) parts (slice_index_or t.lots.items k x).value

-- one
pub record IsOneLot (s : Around) (parts : FrameParts) (t : Lots) : Type 0 where
  pub one : length t.lots.items ≡ 1
  pub lot : (x : Box Lot) → IsWholeLot s t.each parts (slice_index_or t.lots.items 0 x).value

-- one lot is wanted, or several
abbrev pub is_one : Lots → Bool
is_one t = nat_lt t.wanted 2

abbrev pub AreMade : Bool → Around → FrameParts → Lots → Type 0
AreMade true s parts t = IsOneLot s parts t
AreMade false s parts t = AreSeveralLots s parts t

-- the lots of a level, as many as are wanted as far as its patches go, in runs of as many patches each, by a plan of its frames in parts
pub record AreLots (s : Around) (t : Lots) : Type 0 where
  pub of_level : t.level ≡ s.level
  pub some : 0 < t.each
  pub enough : length s.patches ≤ length t.lots.items * t.each
  pub count : 0 < length s.patches → length t.lots.items ≡ lot_count t.wanted (length s.patches)
  pub small : length s.patches ≤ 2 ^ 26
  pub many : length t.lots.items ≤ 2 ^ 26
  pub edges : total (λ q. edge_count (box q)) s.patches ≤ 2 ^ 30
  pub plan : FramePlan
  pub planned : PlansUnlessFilled s.filled (domain_around s) s.patches plan
  pub parts : FrameParts
  pub parted : IsParted plan t.each (length t.lots.items) parts
  pub made : AreMade (is_one t) s parts t

-- they were made for patches with these boxes
pub record AreLotsFor (boxes : List Extent) (t : Lots) : Type 0 where
  pub made_for : Around
  pub on_boxes : map box made_for.patches ≡ boxes
  pub lots : AreLots made_for t
  pub several : is_one t ≡ false

-- ---- what they keep of masses

-- the messages that lots have for others carry the masses M
abbrev pub CarryMasses : Masses → List (Box Lot) → Type 0
CarryMasses M lots = All (λ x. All (CarriesMasses M) x.value.workspace.outbox.items) lots

-- a lot has the values of its outer ghost cells, where the next coarser level has the masses `old`, and no level is lent to it
pub record HasValues (p : Problem) (l : ℕ) (old : Masses) (x : Box Lot) : Type 0 where
  pub values : HasValuesBy p l old x.value.workspace.outer
  pub not_lent : x.value.workspace.outer.coarser ≡ None

-- What lots keep of masses, where they keep any: the messages that they have packed for others carry the masses `own` of their level, and the
-- values of their outer ghost cells are those where the next coarser level has the masses `old`.
pub record AreLotsOf (p : Problem) (l : ℕ) (own old : Masses) (t : Lots) : Type 0 where
  pub packed : t.packed ≡ true → CarryMasses own t.lots.items
  pub valued : t.valued ≡ true → All (HasValues p l old) t.lots.items

-- lots serve what they served before, and what they keep of masses is of these, where the level's own have changed so
pub record StillServe (change : Masses → Masses) (t u : Lots) : Type 0 where
  pub lots : (s : Around) → AreLots s t → AreLots s u
  pub masses : (p : Problem) (l : ℕ) (own old : Masses) → AreLotsOf p l own old t → AreLotsOf p l (change own) old u

-- ---- what flowed to words

abbrev pub first_totals : List (Box Lot) → List ℕ
first_totals [] = []
first_totals (x ∷ xs) = x.value.workspace.totals.items

abbrev pub totals_by : Bool → Lots → List ℕ
totals_by true t = first_totals t.lots.items
totals_by false t = t.totals.items

-- what flowed to each word of the level in the last step
abbrev pub totals_of : Lots → List ℕ
totals_of t = totals_by (is_one t) t
