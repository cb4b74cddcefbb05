-- The order in which patches stand, and which of them has a cell.
use Rattle.std.specs.Prelude.{◌<◌, ◌≤◌, ◌-◌, ℕ, Bool, ◌&&◌, ◌||◌, int_le, int_lt, ◌↔◌, List, length, slice_index_or, IsTrue}
use Rattle.std.specs.List.{All, AllPairs}
use Rattle.amr_box.specs.declared.Cell.{Cell}
use Rattle.amr_box.specs.Cells.{Extent, height, holds}
use Rattle.amr_patch.specs.declared.patches.Patch.{Patch}
use Rattle.amr_patch.specs.declared.lookup.Order.{Order}
use Rattle.amr_patch.specs.Patches.{box}

-- whether a cell comes before another, or is it, where cells go row by row from the low row
abbrev pub comes_first : Cell → Cell → Bool
comes_first a b = int_lt a.y b.y || (int_le a.y b.y && int_le a.x b.x)

-- low corners go row by row
abbrev pub AreInRows : List Patch → Type 0
AreInRows ps = AllPairs (λ p q. IsTrue (comes_first (box p).lo (box q).lo)) ps

abbrev pub AreBoxesInRows : List Extent → Type 0
AreBoxesInRows bs = AllPairs (λ a b. IsTrue (comes_first a.lo b.lo)) bs

-- the patch at a place goes after the one before it, where there is one
abbrev pub FollowsLast : List Patch → ℕ → Type 0
FollowsLast ps k = (d : Patch) → 0 < k → IsTrue (comes_first (box (slice_index_or ps (k - 1) d)).lo (box (slice_index_or ps k d)).lo)

-- none is higher than this
abbrev pub AreAtMostHigh : ℕ → List Patch → Type 0
AreAtMostHigh n ps = All (λ p. height (box p) ≤ n) ps

-- whether they go row by row, and the height of the tallest: 0 where there is none
pub record IsOrderOf (o : Order) (ps : List Patch) : Type 0 where
  pub sorted : IsTrue o.sorted ↔ AreInRows ps
  pub tallest : AreAtMostHigh o.tallest ps
  pub least : (n : ℕ) → AreAtMostHigh n ps → o.tallest ≤ n

-- the patch at a place of the list has the cell
pub record IsHolder (ps : List Patch) (c : Cell) (i : ℕ) : Type 0 where
  pub inside : i < length ps
  pub holds_it : (d : Patch) → IsTrue (holds (box (slice_index_or ps i d)) c)
