use Rattle.std.proofs.Common.{◌≡◌, ℕ, ◌<◌, Bool, slice_index_or, take}
use Rattle.std.specs.List.{AllZip}
use Rattle.amr_box.specs.declared.Cell.{Cell}
use Rattle.amr_ghost.specs.GhostCells.{KeepsCells, KeepsGhosts}
use Rattle.amr_ghost.specs.Messages.{AreMassesFor, HasCopy, mass_count}
use Rattle.amr_ghost.specs.declared.parts.FrameCopy.{FrameCopy}
use Rattle.amr_ghost.proofs.messages.unpack.Given as goal

-- the masses of the copies so far are given
abbrev pub invariant-loop-k : goal.invariant-loop-k
invariant-loop-k l = record {
  done : l.done ≡ mass_count (take l.k l.fn.copies);
  kept : AllZip KeepsCells l.initial.patches l.patches;
  ghosts : (V : Cell → ℕ) (M : Cell → Bool) → AreMassesFor V M l.fn.copies l.fn.masses → AllZip (KeepsGhosts V M) l.initial.patches l.patches;
  set : (V : Cell → ℕ) (M : Cell → Bool) → AreMassesFor V M l.fn.copies l.fn.masses → (j : ℕ) (c : FrameCopy) → j < l.k → HasCopy V M l.patches (slice_index_or l.fn.copies j c);
}
