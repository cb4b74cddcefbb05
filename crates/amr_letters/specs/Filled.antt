-- The frame of a patch while it is filled from what a node has, a slot at a time.
use Rattle.std.specs.Prelude.{◌≡◌, ◌≢◌, ℕ, ◌<◌, IsTrue, List, length, slice_index, slice_index_or}
use Rattle.amr_box.specs.declared.Cell.{Cell}
use Rattle.amr_box.specs.Cells.{holds}
use Rattle.amr_def.specs.declared.problem.Problem.{Problem}
use Rattle.amr_def.specs.State.{Masses}
use Rattle.amr_patch.specs.declared.patches.Patch.{Patch}
use Rattle.amr_patch.specs.Places.{grown, in_frame}
use Rattle.amr_patch.specs.Patches.{SameFluxes, SameOtherValues, box, ghost_in, mark_in, value_in}
use Rattle.amr_ghost.specs.GhostCells.{KeepsCells}
use Rattle.amr_post.specs.declared.ranks.Rank.{Rank}
use Rattle.amr_letters.specs.Beside.{beside_cell}
use Rattle.amr_letters.specs.Told.{TellsFrame}

-- the cells of the frame keep their marks
abbrev pub SameFrameMarks : Patch → Patch → Type 0
SameFrameMarks q r = (c : Cell) → IsTrue (in_frame (box q) c) → mark_in r c ≡ mark_in q c

-- a ghost cell gets a value, and all else stays
pub record IsValueSet (c : Cell) (value : ℕ) (q r : Patch) : Type 0 where
  pub of_box : box r ≡ box q
  pub set : ghost_in r c ≡ value
  pub others : SameOtherValues c q r
  pub marks : SameFrameMarks q r
  pub fluxes : SameFluxes q r

-- the ghost cells at the first slots get these values, and all else stays
pub record AreSlotsFilled (value : ℕ → ℕ) (count : ℕ) (q r : Patch) : Type 0 where
  pub of_box : box r ≡ box q
  pub set : (slot : ℕ) → slot < count → ghost_in r (beside_cell (box q) slot) ≡ value slot
  pub others : (c : Cell) → IsTrue (holds (grown (box q)) c) → ((slot : ℕ) → slot < count → c ≢ beside_cell (box q) slot)
      → value_in r c ≡ value_in q c
  pub marks : SameFrameMarks q r
  pub fluxes : SameFluxes q r

-- all stays but the values of ghost cells beside the patch
pub record KeepsAllButValues (q r : Patch) : Type 0 where
  pub cells : KeepsCells q r
  pub marks : SameFrameMarks q r

-- each patch has an owner, and the node of that rank tells the patch's frame. The patch has the number of its place.
pub record TellFrames (p : Problem) (l : ℕ) (m old : Masses) (ps : List Patch) (owners : List ℕ) (ranks : List Rank) : Type 0 where
  pub at : (k : ℕ) (q : Patch) (r : Rank) → k < length ps
      → TellsFrame p l m old k (box (slice_index_or ps k q)) (slice_index_or ranks (slice_index owners k) r).node
