-- Where the frames of all patches of a level get their values from.
use Rattle.std.specs.Prelude.{ℕ, ◌<◌, length, slice_index_or, List}
use Rattle.std.specs.List.{All}
use Rattle.amr_def.specs.declared.problem.Problem.{Problem}
use Rattle.amr_def.specs.State.{Masses}
use Rattle.amr_patch.specs.declared.patches.Patch.{Patch}
use Rattle.amr_patch.specs.Patches.{masses_in}
use Rattle.amr_ghost.specs.GhostCells.{HasFrame}
use Rattle.amr_ghost.specs.Messages.{HasFilled, IsFrameCopy, IsMessageTo}
use Rattle.amr_ghost.specs.Outer.{AreOuterBeside}
use Rattle.amr_ghost.specs.declared.fills.FrameSources.{FrameSources}

-- they are sources of ghost cells beside these patches
pub record AreSourcesOf (ps : List Patch) (sources : FrameSources) : Type 0 where
  pub outer : AreOuterBeside ps sources.outer
  pub copies : All (IsFrameCopy ps) sources.copies.items
  pub inbox : All (IsMessageTo ps) sources.inbox

-- and by them each ghost cell beside a patch of the level gets the value and the mark of its cell
pub record FillsFrames (p : Problem) (l : ℕ) (old : Masses) (ps : List Patch) (sources : FrameSources) : Type 0 where
  pub are : AreSourcesOf ps sources
  pub frames : (fs : List Patch) → HasFilled sources.outer sources.copies.items sources.inbox ps fs → (k : ℕ) (q : Patch) → k < length ps
      → HasFrame p l (masses_in ps) old (slice_index_or fs k q)
