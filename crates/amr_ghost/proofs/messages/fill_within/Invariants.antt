use Rattle.std.proofs.Common.{ℕ, ◌<◌, Bool, slice_index_or}
use Rattle.std.specs.List.{All, AllZip}
use Rattle.amr_box.specs.declared.Cell.{Cell}
use Rattle.amr_ghost.specs.GhostCells.{KeepsCells, KeepsGhosts}
use Rattle.amr_ghost.specs.Messages.{HasCopy, IsCopyFor}
use Rattle.amr_ghost.specs.declared.parts.FrameCopy.{FrameCopy}
use Rattle.amr_ghost.proofs.messages.fill_within.Given as goal

-- the copies so far are made
abbrev pub invariant-loop-k : goal.invariant-loop-k
invariant-loop-k l = record {
  kept : AllZip KeepsCells l.initial.patches l.patches;
  ghosts : (V : Cell → ℕ) (M : Cell → Bool) → All (IsCopyFor V M l.initial.patches) l.fn.copies → AllZip (KeepsGhosts V M) l.initial.patches l.patches;
  set : (V : Cell → ℕ) (M : Cell → Bool) → All (IsCopyFor V M l.initial.patches) l.fn.copies → (j : ℕ) (c : FrameCopy) → j < l.k → HasCopy V M l.patches (slice_index_or l.fn.copies j c);
}
