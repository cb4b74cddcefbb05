-- How patches stand is a matter of their boxes alone.
use Rattle.std.proofs.Common.{◌≡◌, ◌∙◌, ℕ, zero, suc, ◌+◌, ◌<◌, ◌⊎◌, inl, inr, true, false, ℤ, ◌<ℤ◌, List, length, map, sym, ap, is_lt, int_cmp, arith}
use Rattle.std.specs.Ordering.{MatchOrdering, ordering_then}
use Rattle.std.specs.declared.cmp.Ordering.{Ordering}
use Rattle.std.specs.declared.cmp.Ordering.TheVariants.{Equal, Greater, Less}
use Rattle.std.specs.Cmp.{int_ranks}
use Rattle.std.proofs.lemmas.Int.{ints}
use Rattle.std.specs.List.Sorted.{IsSortedByKey}
use Rattle.std.proofs.lemmas.Bool.{cases_eq}
use Rattle.amr_box.specs.declared.Cell.{Cell}
use Rattle.amr_patch.proofs.Lookups.{comes_first-below, comes_first-trans, comes_first-yes}
use Rattle.std.specs.Prelude.{slice_index_or}
use Rattle.amr_box.specs.Cells.{Extent, height}
use Rattle.amr_patch.specs.declared.patches.Patch.{Patch}
use Rattle.amr_patch.specs.declared.lookup.Order.{Order}
use Rattle.amr_patch.proofs.SameBoxes.{box_at, same_length}
use Rattle.amr_patch.specs.Patches.{box}
use Rattle.amr_patch.specs.Orders.{AreAtMostHigh, AreBoxesInRows, AreInRows, IsOrderOf, comes_first}

rows_of_boxes : (ps qs : List Patch) → map box qs ≡ map box ps → AreInRows ps → AreInRows qs
rows_of_boxes ps qs e h i j d lt l = (λ t. comes_first (box_at qs ps i d e t).lo (box_at qs ps j d e t).lo) ∙ h i j d lt (omega (arith, same_length qs ps e))

heights_of_boxes : (n : ℕ) (ps qs : List Patch) → map box qs ≡ map box ps → AreAtMostHigh n ps → AreAtMostHigh n qs
heights_of_boxes n ps qs e h i d lt = omega (arith, ap (λ (b : Extent). height b) (box_at qs ps i d e), h i d (omega (arith, same_length qs ps e)))

-- patches with the boxes of others stand as those do
pub order_of_boxes : (o : Order) (ps qs : List Patch) → map box qs ≡ map box ps → IsOrderOf o ps → IsOrderOf o qs
order_of_boxes o ps qs e h = record {
  sorted = (λ s. rows_of_boxes ps qs e (h.sorted.0 s), λ r. h.sorted.1 (rows_of_boxes qs ps (sym e) r));
  tallest = heights_of_boxes o.tallest ps qs e h.tallest;
  least = λ n g. h.least n (heights_of_boxes n qs ps (sym e) g);
}

-- ---- sorted by rows

-- a cell that doesn't come before another in the order by row, then by column, is it or comes after it
not_before : (a b : Cell) → is_lt (ordering_then (int_cmp b.y a.y) (int_cmp b.x a.x)) ≡ false → comes_first a b ≡ true
not_before a b h = cases (int_cmp b.y a.y) (int_cmp b.x a.x) (int_ranks b.y a.y) (int_ranks b.x a.x) h
  where
    cases : (o u : Ordering) → MatchOrdering o (b.y <ℤ a.y) (b.y ≡ a.y) (a.y <ℤ b.y) → MatchOrdering u (b.x <ℤ a.x) (b.x ≡ a.x) (a.x <ℤ b.x) → is_lt (ordering_then o u) ≡ false → comes_first a b ≡ true
    cases Less u m n e = absurd (cc)
    cases Equal Less m n e = absurd (cc)
    cases Equal Equal m n e = comes_first-yes a b (omega (arith, ints, m)) (omega (arith, ints, n))
    cases Equal Greater m n e = comes_first-yes a b (omega (arith, ints, m)) (omega (arith, ints, n))
    cases Greater u m n e = comes_first-below a b m

pub boxes_sorted : (bs : List Extent) → IsSortedByKey (λ (b : Extent). (b.lo.y, b.lo.x)) (λ (p q : ℤ × ℤ). ordering_then (int_cmp p.0 q.0) (int_cmp p.1 q.1)) bs → AreBoxesInRows bs
boxes_sorted bs sorted i j d lt l = from_below j lt l
  where
    step : (k : ℕ) → suc k < length bs → comes_first (slice_index_or bs k d).lo (slice_index_or bs (suc k) d).lo ≡ true
    step k l =
        let next : k + 1 ≡ suc k = omega arith in
        ap (λ (n : ℕ). comes_first (slice_index_or bs k d).lo (slice_index_or bs n d).lo) (sym next) ∙ not_before (slice_index_or bs k d).lo (slice_index_or bs (k + 1) d).lo (sorted k d (omega arith) (omega arith))

    after : (m : ℕ) → suc m < length bs → (i ≡ m) ⊎ (i ≡ m → ⊥) → (i < m → comes_first (slice_index_or bs i d).lo (slice_index_or bs m d).lo ≡ true) → i < suc m → comes_first (slice_index_or bs i d).lo (slice_index_or bs (suc m) d).lo ≡ true
    after m l (inl e) before lt = ap (λ (n : ℕ). comes_first (slice_index_or bs n d).lo (slice_index_or bs (suc m) d).lo) e ∙ step m l
    after m l (inr n) before lt = comes_first-trans (slice_index_or bs i d).lo (slice_index_or bs m d).lo (slice_index_or bs (suc m) d).lo (before (omega arith)) (step m l)

    from_below : (j : ℕ) → i < j → j < length bs → comes_first (slice_index_or bs i d).lo (slice_index_or bs j d).lo ≡ true
    from_below zero lt l = absurd (omega arith)
    from_below (suc m) lt l = after m l (cases_eq i m) (λ below. from_below m below (omega arith)) (omega arith)
