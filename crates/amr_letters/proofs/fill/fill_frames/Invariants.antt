use Rattle.std.proofs.Common.{ℕ, ◌<◌, slice_index_or}
use Rattle.std.specs.List.{AllZip}
use Rattle.amr_def.specs.State.{Masses}
use Rattle.amr_patch.specs.declared.patches.Patch.{Patch}
use Rattle.amr_ghost.specs.Frames.{HasGhostValues}
use Rattle.amr_letters.specs.Filled.{KeepsAllButValues, TellFrames}
use Rattle.amr_letters.proofs.fill.fill_frames.Given as goal

-- the frames so far are filled
abbrev pub invariant-loop-k : goal.invariant-loop-k
invariant-loop-k l = record {
  kept : AllZip KeepsAllButValues l.initial.patches l.patches;
  filled : (m old : Masses) → TellFrames l.p l.l m old l.initial.patches l.fn.owners l.fn.ranks → (j : ℕ) (q : Patch) → j < l.k → HasGhostValues l.p l.l m old (slice_index_or l.patches j q);
}
