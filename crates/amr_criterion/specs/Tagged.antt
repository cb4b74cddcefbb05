-- The cells of a patch that differ from a neighbour, by what the patch holds: its cells and the frame round them.
use Rattle.std.specs.Prelude.{◌≡◌, ℕ, ◌<◌, Bool, true, false, ◌&&◌, ℤ, pos, ◌+ℤ◌, ◌-ℤ◌, ◌≤ℤ◌, IsTrue}
use Rattle.std.specs.Int.{int_max, int_min}
use Rattle.std.specs.List.{list_any}
use Rattle.amr_box.specs.declared.Cell.{Cell}
use Rattle.amr_box.specs.Cells.{Extent, cell, holds, moved}
use Rattle.amr_def.specs.Domain.{Domain, home_cell, in_domain}
use Rattle.amr_def.specs.Tags.{differs_by, neighbours}
use Rattle.amr_patch.specs.declared.patches.Patch.{Patch}
use Rattle.amr_patch.specs.Patches.{box, value_in}
use Rattle.amr_patch.specs.Places.{grown}
use Rattle.amr_criterion.specs.Pairs.{after, region}
use Rattle.amr_criterion.specs.declared.firsts.Firsts.{Firsts}

-- whether the value of a cell of the patch and that of a neighbour in the domain differ by the threshold or more
unfoldable pub is_tagged_in : ℕ → Domain → Patch → Cell → Bool
is_tagged_in threshold d q c =
    holds (box q) c && list_any (λ o. in_domain d (home_cell d (moved c o)) && differs_by threshold (value_in q c) (value_in q (moved c o))) neighbours

-- no two values of a patch and its frame differ by the threshold or more
abbrev pub IsFlat : ℕ → Patch → Type 0
IsFlat threshold q =
    (c d : Cell) → IsTrue (holds (grown (box q)) c) → IsTrue (holds (grown (box q)) d) → differs_by threshold (value_in q c) (value_in q d) ≡ false

-- ---- which pairs a patch compares

-- the first cells of all pairs, and of those in row k
abbrev pub all_firsts : Firsts → Extent
all_firsts f = region f.from f.columns f.rows

abbrev pub row_firsts : Firsts → ℕ → Extent
row_firsts f k = region (cell f.from.x (f.from.y +ℤ pos k)) f.columns 1

-- the cells of an axis that those from `low` to `high` are compared with begin and end one beyond them, but at the ends of an
-- open axis of n cells
abbrev pub reach_low : Bool → ℤ → ℤ
reach_low true low = low -ℤ pos 1
reach_low false low = int_max (low -ℤ pos 1) (pos 0)

abbrev pub reach_high : Bool → ℕ → ℤ → ℤ
reach_high true n high = high +ℤ pos 1
reach_high false n high = int_min (high +ℤ pos 1) (pos n -ℤ pos 1)

-- n cells of a row, from a cell on, have values in the patch of a box
pub record IsRowOf (b : Extent) (c : Cell) (n : ℕ) : Type 0 where
  pub west : (b.lo.x -ℤ pos 1) ≤ℤ c.x
  pub south : (b.lo.y -ℤ pos 1) ≤ℤ c.y
  pub east : (c.x +ℤ pos n) ≤ℤ (b.hi.x +ℤ pos 2)
  pub north : c.y ≤ℤ (b.hi.y +ℤ pos 1)

-- both cells of each pair have values in the patch
pub record AreReached (b : Extent) (f : Firsts) : Type 0 where
  pub firsts : (k : ℕ) → k < f.rows → IsRowOf b (cell f.from.x (f.from.y +ℤ pos k)) f.columns
  pub seconds : (k : ℕ) → k < f.rows → IsRowOf b (after f.axis (cell f.from.x (f.from.y +ℤ pos k))) f.columns
