use Rattle.std.proofs.Common.{ℕ, ◌<◌, ◌≤◌}
use Rattle.std.specs.Prelude.{◌↔◌, slice_index_or, IsTrue}
use Rattle.amr_box.specs.Cells.{height}
use Rattle.amr_patch.specs.declared.patches.Patch.{Patch}
use Rattle.amr_patch.specs.Patches.{box}
use Rattle.amr_patch.specs.Orders.{comes_first}
use Rattle.amr_patch.proofs.lookup.order_of.Given as goal

-- of the patches below k
abbrev pub invariant-loop-k : goal.invariant-loop-k
invariant-loop-k l = record {
  rows : IsTrue l.sorted ↔ ((i j : ℕ) (d : Patch) → i < j → j < l.k → IsTrue (comes_first (box (slice_index_or l.patches i d)).lo (box (slice_index_or l.patches j d)).lo));
  tallest : (i : ℕ) (d : Patch) → i < l.k → height (box (slice_index_or l.patches i d)) ≤ l.tallest;
  least : (n : ℕ) → ((i : ℕ) (d : Patch) → i < l.k → height (box (slice_index_or l.patches i d)) ≤ n) → l.tallest ≤ n;
}
