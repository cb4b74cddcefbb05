use Rattle.std.proofs.Common.{ℕ, ◌<◌, Bool, slice_index_or}
use Rattle.std.specs.List.{All, AllZip}
use Rattle.amr_box.specs.declared.Cell.{Cell}
use Rattle.amr_ghost.specs.GhostCells.{KeepsCells, KeepsGhosts}
use Rattle.amr_ghost.specs.Outer.{AreOuterFor, HasOuter}
use Rattle.amr_ghost.specs.Messages.{HasCopy, IsCopyFor, IsMessageFor}
use Rattle.amr_ghost.specs.declared.messages.Message.{Message}
use Rattle.amr_ghost.proofs.messages.fill_run.Given as goal

-- the outer ghost cells have their values, the copies within the run are made, and the messages so far unpacked
abbrev pub invariant-loop-k : goal.invariant-loop-k
invariant-loop-k l = record {
  kept : AllZip KeepsCells l.fn.patches l.patches;
  ghosts : (V : Cell → ℕ) (M : Cell → Bool) → AreOuterFor V M l.fn.outer → All (IsCopyFor V M l.fn.patches) l.fn.copies → All (IsMessageFor V M) l.fn.messages → AllZip (KeepsGhosts V M) l.fn.patches l.patches;
  outer : (V : Cell → ℕ) (M : Cell → Bool) → AreOuterFor V M l.fn.outer → All (IsCopyFor V M l.fn.patches) l.fn.copies → All (IsMessageFor V M) l.fn.messages → All (HasOuter V M l.patches) l.fn.outer.spans.items;
  set : (V : Cell → ℕ) (M : Cell → Bool) → AreOuterFor V M l.fn.outer → All (IsCopyFor V M l.fn.patches) l.fn.copies → All (IsMessageFor V M) l.fn.messages → All (HasCopy V M l.patches) l.fn.copies;
  received : (V : Cell → ℕ) (M : Cell → Bool) → AreOuterFor V M l.fn.outer → All (IsCopyFor V M l.fn.patches) l.fn.copies → All (IsMessageFor V M) l.fn.messages → (j : ℕ) (x : Message) → j < l.k → All (HasCopy V M l.patches) (slice_index_or l.fn.messages j x).copies.items;
}
