-- Look-ups among bars in order.
use Rattle.std.proofs.Common.{◌≡◌, ◌∙◌, ℕ, ◌+◌, ◌-◌, ◌<◌, ◌≤◌, true, false, ◌⊎◌, inl, inr, ℤ, ◌≤ℤ◌, ◌<ℤ◌, List, length, refl, sym, ap, arith}
use Rattle.std.specs.Prelude.{slice_index_or}
use Rattle.std.specs.List.Sorted.{IsPartitionPoint, IsPartitionedBy}
use Rattle.std.proofs.lemmas.Int.{ints}
use Rattle.std.proofs.lemmas.Bool.{both_ways, cases_eq, cases_lt, false_from_ne_true}
use Rattle.std.proofs.lemmas.List.Folds.{Any-from_list_any, list_any_at}
use Rattle.amr_box.specs.declared.Cell.{Cell}
use Rattle.amr_box.specs.Cells.{Extent, cell, extent, holds, in_boxes}
use Rattle.amr_patch.specs.Orders.{AreBoxesInRows, comes_first}
use Rattle.amr_patch.proofs.Lookups.{comes_first-rows, comes_first-trans, comes_first-yes}
use Rattle.amr_patch.proofs.Rows.{inside, is_inside}
use Rattle.amr_register.specs.Bars.{AreBars, IsBar}
use Rattle.amr_register.proofs.Taken.{same_at}

-- ---- the bars that start up to a cell

first_in_row : (a b : Cell) → comes_first a b ≡ true → b.y ≤ℤ a.y → a.x ≤ℤ b.x
first_in_row a b h e = grind (arith, ints)

later_in_row : (a b : Cell) → comes_first a b ≡ false → a.y ≤ℤ b.y → b.x <ℤ a.x
later_in_row a b h e = grind (arith, ints)

later_by_rows : (a b : Cell) → comes_first a b ≡ false → b.y ≤ℤ a.y
later_by_rows a b h = grind (arith, ints)

pub parted : (rs : List Extent) (c : Cell) → AreBoxesInRows rs → IsPartitionedBy (λ r. comes_first r.lo c) rs
parted rs c in_rows i j d le lt h = by_place (cases_eq i j)
  where
    by_place : (i ≡ j) ⊎ (i ≡ j → ⊥) → comes_first (slice_index_or rs i d).lo c ≡ true
    by_place (inl e) = ap (λ (n : ℕ). comes_first (slice_index_or rs n d).lo c) e ∙ h
    by_place (inr ne) = comes_first-trans (slice_index_or rs i d).lo (slice_index_or rs j d).lo c (in_rows i j d (omega arith) lt) h

-- so many do, where the last of them does and the next one doesn't
pub is_point : (rs : List Extent) (c : Cell) (n : ℕ) → AreBoxesInRows rs → ((r : Extent) → 0 < n → comes_first (slice_index_or rs (n - 1) r).lo c ≡ true) → ((r : Extent) → n < length rs → comes_first (slice_index_or rs n r).lo c ≡ false) → n ≤ length rs
    → IsPartitionPoint (λ r. comes_first r.lo c ≡ true) (λ r. comes_first r.lo c ≡ false) rs n
is_point rs c n in_rows last next within = (λ k d from lt. early k d lt, λ k d from lt. late k d from lt)
  where
    early : (k : ℕ) (d : Extent) → k < n → comes_first (slice_index_or rs k d).lo c ≡ true
    early k d lt = parted rs c in_rows k (n - 1) d (omega arith) (omega arith) (last d (omega arith))

    late : (k : ℕ) (d : Extent) → n ≤ k → k < length rs → comes_first (slice_index_or rs k d).lo c ≡ false
    late k d from lt = false_from_ne_true _ (λ h. both_ways (comes_first (slice_index_or rs n d).lo c) (next d (omega arith)) (parted rs c in_rows n k d from lt h))

-- a bar that has a cell starts in the cell's row, at or left of it
row_of_bar : (r : Extent) (c : Cell) → IsBar r → holds r c ≡ true → r.lo.y ≡ c.y
row_of_bar r c bar h = let i = inside r c h in omega (arith, ints, i.south, i.north, bar.of_row)

starts : (r : Extent) (c : Cell) → IsBar r → holds r c ≡ true → comes_first r.lo c ≡ true
starts r c bar h = comes_first-yes r.lo c (inside r c h).south (inside r c h).west

-- a bar has a cell of its row from its start to its end
on_bar : (r : Extent) (c : Cell) → IsBar r → r.lo.y ≡ c.y → r.lo.x ≤ℤ c.x → c.x ≤ℤ r.hi.x → holds r c ≡ true
on_bar r c bar row from to = is_inside r c (record { west = from; east = to; south = omega (arith, ints, row); north = omega (arith, ints, row, bar.of_row) })

module _ (rs : List Extent) (c : Cell) (count : ℕ) (bars : AreBars rs) (parts : IsPartitionPoint (λ r. comes_first r.lo c ≡ true) (λ r. comes_first r.lo c ≡ false) rs count) where
  -- each bar that has the cell is one of the first
  early : (k : ℕ) (d : Extent) → k < length rs → holds (slice_index_or rs k d) c ≡ true → k < count
  early k d lt h = by_place (cases_lt k count)
    where
      by_place : (k < count) ⊎ (count ≤ k) → k < count
      by_place (inl below) = below
      by_place (inr past) = absurd (both_ways (comes_first (slice_index_or rs k d).lo c) (parts.1 k d past lt) (starts (slice_index_or rs k d) c (bars.each k d lt) h))

  pub none_first : count ≡ 0 → in_boxes rs c ≡ false
  none_first e = false_from_ne_true (in_boxes rs c) (λ t.
      let one = Any-from_list_any (λ (b : Extent). holds b c) rs t in
      let held : holds (slice_index_or rs one.0 one.1) c ≡ true = ap (λ (b : Extent). holds b c) one.3 ∙ one.4 in
      let lt = early one.0 one.1 one.2 held in
      omega (arith, e, lt))

  -- of those the last alone can have it: an earlier one that has it would have the start of the last
  pub last_alone : (n : ℕ) (last : Extent) → count ≡ n + 1 → n < length rs → last ≡ slice_index_or rs n last → holds last c ≡ false → in_boxes rs c ≡ false
  last_alone n last e there at off = false_from_ne_true (in_boxes rs c) (λ t.
      let one = Any-from_list_any (λ (b : Extent). holds b c) rs t in
      let held : holds (slice_index_or rs one.0 one.1) c ≡ true = ap (λ (b : Extent). holds b c) one.3 ∙ one.4 in
      none one.0 one.1 one.2 held (cases_eq one.0 n))
    where
      none : (k : ℕ) (d : Extent) → k < length rs → holds (slice_index_or rs k d) c ≡ true → (k ≡ n) ⊎ (k ≡ n → ⊥) → ⊥
      none k d lt h (inl same) =
          let here : slice_index_or rs k d ≡ last = ap (λ (i : ℕ). slice_index_or rs i d) same ∙ same_at rs n d last there ∙ sym at in
          both_ways (holds last c) off (ap (λ (b : Extent). holds b c) (sym here) ∙ h)
      none k d lt h (inr ne) =
          let before : k < n = omega (arith, e, early k d lt h, ne) in
          let r = slice_index_or rs k d in
          let s = slice_index_or rs n d in
          let bar = bars.each k d lt in
          let other = bars.each n d there in
          let first = bars.in_rows k n d before there in
          let second = parts.0 n d (omega arith) (omega (arith, e)) in
          let row = row_of_bar r c bar h in
          let i = inside r c h in
          let up = comes_first-rows r.lo s.lo first in
          let down = comes_first-rows s.lo c second in
          let level : r.lo.y ≡ s.lo.y = omega (arith, ints, row, up, down) in
          let left = first_in_row r.lo s.lo first (omega (arith, ints, level)) in
          let right = first_in_row s.lo c second (omega (arith, ints, row, level)) in
          let shared : holds r s.lo ≡ true = on_bar r s.lo bar level left (omega (arith, ints, right, i.east)) in
          let own : holds s s.lo ≡ true = on_bar s s.lo other refl (omega (arith, ints)) other.wide in
          bars.apart k n d before there s.lo shared own

  -- ---- how far along the row there is none

  -- the bars that start later do so after a column, if in the cell's row
  abbrev pub StartAfter : ℤ → Type 0
  StartAfter last = (k : ℕ) (d : Extent) → count ≤ k → k < length rs → (slice_index_or rs k d).lo.y ≡ c.y → last <ℤ (slice_index_or rs k d).lo.x

  pub none_later : (last : ℤ) → count ≡ length rs → StartAfter last
  none_later last e k d le lt row = absurd (omega (arith, e, le, lt))

  module _ (next : Extent) (there : count < length rs) (at : next ≡ slice_index_or rs count next) where
    at_any : (d : Extent) → slice_index_or rs count d ≡ next
    at_any d = same_at rs count d next there ∙ sym at

    pub starts_later : comes_first next.lo c ≡ false
    starts_later = ap (λ (b : Extent). comes_first b.lo c) at ∙ parts.1 count next (omega arith) there

    pub next_right : next.lo.y ≤ℤ c.y → c.x <ℤ next.lo.x
    next_right h = later_in_row next.lo c starts_later h

    -- no bar that starts later starts before the next one
    after_next : (k : ℕ) (d : Extent) → count ≤ k → k < length rs → (k ≡ count) ⊎ (k ≡ count → ⊥) → comes_first next.lo (slice_index_or rs k d).lo ≡ true
    after_next k d le lt (inl same) =
        let here : slice_index_or rs k d ≡ next = ap (λ (i : ℕ). slice_index_or rs i d) same ∙ at_any d in
        ap (λ (b : Extent). comes_first next.lo b.lo) here ∙ comes_first-yes next.lo next.lo (omega (arith, ints)) (omega (arith, ints))
    after_next k d le lt (inr ne) = ap (λ (b : Extent). comes_first b.lo (slice_index_or rs k d).lo) (sym (at_any d)) ∙ bars.in_rows count k d (omega arith) lt

    pub next_above : (last : ℤ) → c.y <ℤ next.lo.y → StartAfter last
    next_above last h k d le lt row = let up = comes_first-rows next.lo (slice_index_or rs k d).lo (after_next k d le lt (cases_eq k count)) in absurd (omega (arith, ints, h, up, row))

    pub next_in_row : (last : ℤ) → last <ℤ next.lo.x → next.lo.y ≤ℤ c.y → StartAfter last
    next_in_row last h low k d le lt row =
        let after = after_next k d le lt (cases_eq k count) in
        let level = later_by_rows next.lo c starts_later in
        let right = first_in_row next.lo (slice_index_or rs k d).lo after (omega (arith, ints, row, level)) in
        omega (arith, ints, h, right)

  pub none_along : (last : ℤ) → StartAfter last → in_boxes rs c ≡ false → (x : ℤ) → c.x ≤ℤ x → x ≤ℤ last → in_boxes rs (cell x c.y) ≡ false
  none_along last after none x from to = false_from_ne_true (in_boxes rs (cell x c.y)) (λ t.
      let one = Any-from_list_any (λ (b : Extent). holds b (cell x c.y)) rs t in
      let held : holds (slice_index_or rs one.0 one.1) (cell x c.y) ≡ true = ap (λ (b : Extent). holds b (cell x c.y)) one.3 ∙ one.4 in
      not_there one.0 one.1 one.2 held (cases_lt one.0 count))
    where
      not_there : (k : ℕ) (d : Extent) → k < length rs → holds (slice_index_or rs k d) (cell x c.y) ≡ true → (k < count) ⊎ (count ≤ k) → ⊥
      not_there k d lt h (inl below) =
          let r = slice_index_or rs k d in
          let row = row_of_bar r (cell x c.y) (bars.each k d lt) h in
          let i = inside r (cell x c.y) h in
          let left = first_in_row r.lo c (parts.0 k d (omega arith) below) (omega (arith, ints, row)) in
          both_ways (in_boxes rs c) none (list_any_at (λ (b : Extent). holds b c) rs k d lt (on_bar r c (bars.each k d lt) row left (omega (arith, ints, from, i.east))))
      not_there k d lt h (inr past) =
          let r = slice_index_or rs k d in
          let row = row_of_bar r (cell x c.y) (bars.each k d lt) h in
          let i = inside r (cell x c.y) h in
          let right = after k d past lt row in
          omega (arith, ints, right, i.west, to)

-- the cells from one on to a column, where none is in a bar
pub stretch_without : (rs : List Extent) (c end : Cell) → end.y ≡ c.y → ((x : ℤ) → c.x ≤ℤ x → x ≤ℤ end.x → in_boxes rs (cell x c.y) ≡ false) → (d : Cell) → holds (extent c end) d ≡ true → in_boxes rs d ≡ false
stretch_without rs c end row none d h =
    let i = inside (extent c end) d h in
    let y : d.y ≡ c.y = omega (arith, ints, row, i.south, i.north) in
    (λ j. in_boxes rs (cell d.x (y j))) ∙ none d.x i.west i.east
