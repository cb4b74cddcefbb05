-- Where ghost cells get their values from. It goes by boxes alone.
use Rattle.std.specs.Prelude.{◌≡◌, ℕ, ◌+◌, ◌*◌, ◌<◌, ◌≤◌, false, true, length, slice_index_or, List, IfOk, IsTrue}
use Rattle.std.specs.Global.{Vec}
use Rattle.std.specs.declared.result.Result.{Result}
use Rattle.std.specs.List.{All, Any}
use Rattle.amr_causes.specs.declared.no_memory.NoMemory.{NoMemory}
use Rattle.amr_box.specs.declared.Cell.{Cell}
use Rattle.amr_box.specs.declared.Axis.{Axis}
use Rattle.amr_box.specs.Cells.{holds}
use Rattle.amr_def.specs.Domain.{Domain, home_cell, in_domain}
use Rattle.amr_patch.specs.declared.patches.Patch.{Patch}
use Rattle.amr_patch.specs.Patches.{box, in_patches}
use Rattle.amr_ghost.specs.Strips.{HasRoom, step}
use Rattle.amr_ghost.specs.Frames.{is_beside}
use Rattle.amr_ghost.specs.GhostCells.{IsGhostStrip}
use Rattle.amr_ghost.specs.declared.sides.Strip.{Strip}
use Rattle.amr_ghost.specs.declared.sources.Source.{Source}
use Rattle.amr_ghost.specs.declared.sources.Source.TheVariants.{Beside, Coarser, Outside}
use Rattle.amr_ghost.specs.declared.sources.GhostSpan.{GhostSpan}
use Rattle.amr_ghost.specs.declared.plan.FramePlan.{FramePlan}

-- the cells of a strip stand for cells of patch j, from h on
pub record StandForHeld (d : Domain) (ps : List Patch) (s : Strip) (j : ℕ) (h : Cell) : Type 0 where
  pub home : h ≡ home_cell d s.from
  pub room : HasRoom h
  pub there : j < length ps
  pub held : (q : Patch) (k : ℕ) → k < s.count → IsTrue (holds (box (slice_index_or ps j q)) (step s.axis h k))

-- they stand for cells of the domain that no patch has, from h on
pub record StandInGap (d : Domain) (ps : List Patch) (s : Strip) (h : Cell) : Type 0 where
  pub home : h ≡ home_cell d s.from
  pub room : HasRoom h
  pub inside : in_domain d h ≡ true
  pub gap : (k : ℕ) → k < s.count → in_patches ps (step s.axis h k) ≡ false

-- where the cells of a strip get their values from: outside of a side of the domain, from a patch, or from the coarser level
abbrev pub IsSource : Domain → List Patch → Strip → Source → Type 0
IsSource d ps s Outside = in_domain d (home_cell d s.from) ≡ false
IsSource d ps s (Beside j h) = StandForHeld d ps s j h
IsSource d ps s (Coarser h) = StandInGap d ps s h

-- ghost cells beside one of the patches, and where they get their values from
pub record IsSpan (d : Domain) (ps : List Patch) (s : GhostSpan) : Type 0 where
  pub there : s.patch < length ps
  pub some : 0 < s.strip.count
  pub small : s.strip.count ≤ 8192
  pub room : HasRoom s.strip.from
  pub ghost_strip : (q : Patch) → IsGhostStrip d (box (slice_index_or ps s.patch q)) s.strip.axis s.strip.from s.strip.count
  pub source : IsSource d ps s.strip s.source

-- a span has a ghost cell of patch i
pub record HasCell (i : ℕ) (c : Cell) (s : GhostSpan) : Type 0 where
  pub of_patch : s.patch ≡ i
  pub place : ℕ
  pub within : place < s.strip.count
  pub is : c ≡ step s.strip.axis s.strip.from place

-- spans have the first cells of a strip beside patch i
pub record HaveStrip (ss : List GhostSpan) (i : ℕ) (axis : Axis) (c : Cell) (count : ℕ) : Type 0 where
  pub at : (k : ℕ) → k < count → Any (HasCell i (step axis c k)) ss

-- the cells that spans have stay ones that they have
pub record KeepSpans (ss ts : List GhostSpan) : Type 0 where
  pub at : (i : ℕ) (c : Cell) → Any (HasCell i c) ss → Any (HasCell i c) ts

-- spans have each ghost cell beside a patch
pub record HaveFrame (ps : List Patch) (ss : List GhostSpan) (i : ℕ) : Type 0 where
  pub at : (q : Patch) (c : Cell) → IsTrue (is_beside (box (slice_index_or ps i q)) c) → Any (HasCell i c) ss

-- spans tell of each ghost cell beside each patch of a run, from patch `from` to before patch `to`, where it gets its value from
pub record PlansRun (d : Domain) (ps : List Patch) (from to : ℕ) (ss : List GhostSpan) : Type 0 where
  pub spans : All (IsSpan d ps) ss
  pub frames : (i : ℕ) → from ≤ i → i < to → i < length ps → HaveFrame ps ss i

-- the patches are cut into runs of one size, the last one perhaps shorter, and each list that is there tells it of the run of its number
abbrev pub ArePlannedRuns : Domain → List Patch → ℕ → List (Result (Vec GhostSpan) NoMemory) → Type 0
ArePlannedRuns d ps size runs =
    (k : ℕ) (r : Result (Vec GhostSpan) NoMemory) → k < length runs → IfOk (slice_index_or runs k r) (λ v. PlansRun d ps (k * size) (k * size + size) v.items)

-- a plan tells of each ghost cell beside each of the patches where it gets its value from
pub record PlansFrames (d : Domain) (ps : List Patch) (plan : FramePlan) : Type 0 where
  pub spans : All (IsSpan d ps) plan.spans.items
  pub frames : (i : ℕ) → i < length ps → HaveFrame ps plan.spans.items i
