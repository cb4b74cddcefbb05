-- The step of a lot's patches, and what they add to words.
use Rattle.std.specs.Prelude.{◌≡◌, ℕ, ◌+◌, ◌<◌, ◌≤◌, ◌^◌, true, pos, ◌+ℤ◌, ◌≤ℤ◌, ◌<ℤ◌, List, [], ◌∷◌, length, slice_index, unsigned_abs, IsSome, IsTrue}
use Rattle.std.specs.List.{All, AllZip}
use Rattle.amr_box.specs.declared.Cell.{Cell}
use Rattle.amr_box.specs.declared.Face.{Face}
use Rattle.amr_box.specs.Cells.{Extent, holds, width}
use Rattle.amr_def.specs.declared.problem.Problem.{Problem}
use Rattle.amr_def.specs.Domain.{domain}
use Rattle.amr_def.specs.State.{Masses, mass_of}
use Rattle.amr_def.specs.Value.{value_at}
use Rattle.amr_def.specs.Flux.{Fluxes, flux_at, net}
use Rattle.amr_patch.specs.declared.patches.Patch.{Patch}
use Rattle.amr_patch.specs.Places.{is_edge_face}
use Rattle.amr_patch.specs.Patches.{SameMarks, SameValues, box, flux_in, mass_in, value_in}
use Rattle.amr_faces.specs.Faces.{IsInDomain, flux_beside, in_reach}
use Rattle.amr_flux.specs.PatchSides.{includes, side_of}
use Rattle.amr_flux.specs.declared.fluxes.PatchSides.{PatchSides}
use Rattle.amr_layout.specs.declared.FlowTo.{FlowTo}
use Rattle.amr_layout.specs.Adds.{word_total}

-- ---- the numbers of a step

-- the numbers of a step of level l with masses m, where the next coarser level had the masses `old`, fit the integers of code:
-- what flows out of a cell is no more than it has
pub record LevelStepFits (p : Problem) (l : ℕ) (m old : Masses) : Type 0 where
  pub values : (c : Cell) → value_at p l m old c < 2 ^ 31
  pub fluxes : (f : Face) → unsigned_abs (flux_at p l m old f) < 2 ^ 31
  pub kept : (c : Cell) → IsSome (m c) → pos 0 ≤ℤ (pos (mass_of m c) +ℤ net (flux_at p l m old) c)
  pub fits : (c : Cell) → IsSome (m c) → (pos (mass_of m c) +ℤ net (flux_at p l m old) c) <ℤ pos (2 ^ 32)

-- a patch of level l with values below 2^31 in reach, of which no step makes a mass below 0 or one that does not fit
pub record MayStep (p : Problem) (l : ℕ) (q : Patch) : Type 0 where
  pub level : l ≤ 4
  pub inside : IsInDomain (domain p l) (box q)
  pub small : (c : Cell) → IsTrue (in_reach (box q) c) → value_in q c < 2 ^ 31
  pub kept : (c : Cell) → IsTrue (holds (box q) c) → pos 0 ≤ℤ (pos (mass_in q c) +ℤ net (flux_beside p l q) c)
  pub fits : (c : Cell) → IsTrue (holds (box q) c) → (pos (mass_in q c) +ℤ net (flux_beside p l q) c) <ℤ pos (2 ^ 32)

-- ---- the step of a patch

-- a patch whose cells got what flows in
pub record IsStepped (e : Fluxes) (q r : Patch) : Type 0 where
  pub of_box : box r ≡ box q
  pub masses : (c : Cell) → IsTrue (holds (box q) c) → pos (mass_in r c) ≡ pos (mass_in q c) +ℤ net e c

-- one whose cells got what flows in by its own values and its frame
abbrev pub HasStepped : Problem → ℕ → Patch → Patch → Type 0
HasStepped p l q r = IsStepped (flux_beside p l q) q r

-- ---- flows to words

-- flows through faces on the edges of a patch
abbrev pub AreEdgeFlows : Patch → List FlowTo → Type 0
AreEdgeFlows q = All (λ (x : FlowTo). IsTrue (is_edge_face (box q) x.face))

-- what a patch adds to a word by flows
abbrev pub adds_to : Problem → ℕ → ℕ → Patch → List FlowTo → ℕ
adds_to p l word q xs = word_total (λ (f : Face). unsigned_abs (flux_beside p l q f)) word xs

-- what patches with these flows, a list for each, add to a word, all together
abbrev pub lot_total : Problem → ℕ → List Patch → List (List FlowTo) → ℕ → ℕ
lot_total p l [] xss word = 0
lot_total p l (q ∷ qs) [] word = 0
lot_total p l (q ∷ qs) (xs ∷ xss) word = adds_to p l word q xs + lot_total p l qs xss word

-- patches with filled frames that may make their step, with their flows: no patch is wider than a room for so many columns, the
-- flows go to so many words, and no word gets 2^63
pub record AreReady (p : Problem) (l columns many : ℕ) (qs : List Patch) (xss : List (List FlowTo)) : Type 0 where
  pub count : length xss ≡ length qs
  pub step : All (MayStep p l) qs
  pub room : All (λ q. width (box q) ≤ columns) qs
  pub flows : AllZip AreEdgeFlows qs xss
  pub words : All (All (λ (x : FlowTo). x.word < many)) xss
  pub fits : (word : ℕ) → lot_total p l qs xss word < 2 ^ 63

-- ---- sides

-- a patch whose fluxes through the faces on these sides are worked out, by its values. Its values and marks stay.
pub record IsSweptOn (p : Problem) (l : ℕ) (s : PatchSides) (q r : Patch) : Type 0 where
  pub of_box : box r ≡ box q
  pub values : SameValues q r
  pub marks : SameMarks q r
  pub fluxes : (f : Face) → IsTrue (is_edge_face (box q) f) → includes s (side_of (box q) f) ≡ true → flux_in r f ≡ flux_beside p l q f

-- faces on these sides of a box
abbrev pub LieOn : PatchSides → Extent → List FlowTo → Type 0
LieOn s b = All (λ (x : FlowTo). includes s (side_of b x.face) ≡ true)

-- ---- what a patch adds

-- flows of a patch, which lie on these sides, may be added to totals of words
pub record CanAdd (p : Problem) (l : ℕ) (q : Patch) (flows : List FlowTo) (s : PatchSides) (totals : List ℕ) : Type 0 where
  pub edges : AreEdgeFlows q flows
  pub lie : LieOn s (box q) flows
  pub words : All (λ (x : FlowTo). x.word < length totals) flows
  pub fits : (word : ℕ) → slice_index totals word + adds_to p l word q flows < 2 ^ 63

-- they were
pub record HasAdded (p : Problem) (l : ℕ) (q : Patch) (flows : List FlowTo) (totals after : List ℕ) : Type 0 where
  pub count : length after ≡ length totals
  pub adds : (word : ℕ) → slice_index after word ≡ slice_index totals word + adds_to p l word q flows
