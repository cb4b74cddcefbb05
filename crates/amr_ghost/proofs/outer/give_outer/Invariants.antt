use Rattle.std.proofs.Common.{◌≡◌, ℕ, ◌<◌, Bool, slice_index_or, take}
use Rattle.std.specs.List.{AllZip}
use Rattle.amr_box.specs.declared.Cell.{Cell}
use Rattle.amr_ghost.specs.GhostCells.{KeepsCells, KeepsGhosts}
use Rattle.amr_ghost.specs.Outer.{AreOuterValuesFor, HasOuter, value_count}
use Rattle.amr_ghost.specs.declared.sources.GhostSpan.{GhostSpan}
use Rattle.amr_ghost.proofs.outer.give_outer.Given as goal

-- the values of the spans so far are given
abbrev pub invariant-loop-k : goal.invariant-loop-k
invariant-loop-k l = record {
  done : l.done ≡ value_count (take l.k l.fn.spans);
  kept : AllZip KeepsCells l.initial.patches l.patches;
  ghosts : (V : Cell → ℕ) (M : Cell → Bool) → AreOuterValuesFor V M l.fn.spans l.fn.values → AllZip (KeepsGhosts V M) l.initial.patches l.patches;
  set : (V : Cell → ℕ) (M : Cell → Bool) → AreOuterValuesFor V M l.fn.spans l.fn.values → (j : ℕ) (s : GhostSpan) → j < l.k → HasOuter V M l.patches (slice_index_or l.fn.spans j s);
}
