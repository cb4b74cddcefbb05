-- Steep pairs whose first cells are in a region: of two regions, of none, and of a row's next ones.
use Rattle.std.proofs.Common.{◌≡◌, ℕ, ◌+◌, ◌-◌, ◌<◌, ◌≤◌, Bool, true, false, ◌&&◌, ◌||◌, ℤ, pos, ◌+ℤ◌, ◌-ℤ◌, ◌≤ℤ◌, List, length, refl, sym, ap, ◌∙◌, arith}
use Rattle.std.specs.Prelude.{slice_index}
use Rattle.std.proofs.lemmas.Int.{ints}
use Rattle.amr_box.specs.declared.Cell.{Cell}
use Rattle.amr_box.specs.declared.Axis.{Axis}
use Rattle.amr_box.specs.Cells.{Extent, holds}
use Rattle.amr_def.specs.Tags.{differs_by}
use Rattle.amr_criterion.specs.Pairs.{AreAlong, ahead, before, in_steep_pair, is_steep, region, with_after}
use Rattle.std.proofs.Math.Bool.{and-or_distrib_right}
use Rattle.amr_box.proofs.Tests.{and_apart, or_swapped}
use Rattle.amr_criterion.proofs.Regions.{ahead_of, cells_after, row_parts}

pub steep_union : (threshold : ℕ) (value : Cell → ℕ) (axis : Axis) (a b r : Extent) → ((c : Cell) → holds r c ≡ (holds a c || holds b c)) → (c : Cell) → in_steep_pair threshold value axis r c ≡ (in_steep_pair threshold value axis a c || in_steep_pair threshold value axis b c)
unfolding in_steep_pair
steep_union threshold value axis a b r union c =
    let s = is_steep threshold value axis c in
    let t = is_steep threshold value axis (before axis c) in
    (λ i. (union c i && s) || (union (before axis c) i && t))
    ∙ (λ i. and-or_distrib_right (holds a c) (holds b c) s i || and-or_distrib_right (holds a (before axis c)) (holds b (before axis c)) t i)
    ∙ or_swapped (holds a c && s) (holds b c && s) (holds a (before axis c) && t) (holds b (before axis c) && t)

all_of : (h s : Bool) → (h ≡ true → s ≡ true) → (h && s) ≡ h
all_of true s f = f refl
all_of false s f = refl

pub steep_none : (threshold : ℕ) (value : Cell → ℕ) (axis : Axis) (r : Extent) → ((c : Cell) → holds r c ≡ true → is_steep threshold value axis c ≡ false) → (c : Cell) → in_steep_pair threshold value axis r c ≡ false
unfolding in_steep_pair
steep_none threshold value axis r none c =
    let here = and_apart (holds r c) (is_steep threshold value axis c) (none c) in
    let there = and_apart (holds r (before axis c)) (is_steep threshold value axis (before axis c)) (none (before axis c)) in
    λ i. here i || there i

pub steep_all : (threshold : ℕ) (value : Cell → ℕ) (axis : Axis) (r : Extent) → r.lo.x ≤ℤ r.hi.x → r.lo.y ≤ℤ r.hi.y → ((c : Cell) → holds r c ≡ true → is_steep threshold value axis c ≡ true) → (c : Cell) → in_steep_pair threshold value axis r c ≡ holds (with_after axis r) c
unfolding in_steep_pair
steep_all threshold value axis r wide high all c =
    let here = all_of (holds r c) (is_steep threshold value axis c) (all c) in
    let there = all_of (holds r (before axis c)) (is_steep threshold value axis (before axis c)) (all (before axis c)) in
    (λ i. here i || there i) ∙ sym (cells_after axis r c wide high)

-- where no first cell is, no pair is
pub steep_empty : (threshold : ℕ) (value : Cell → ℕ) (axis : Axis) (r : Extent) → ((c : Cell) → holds r c ≡ false) → (c : Cell) → in_steep_pair threshold value axis r c ≡ false
steep_empty threshold value axis r empty = steep_none threshold value axis r (λ c h. absurd (apart (sym h ∙ empty c)))
  where
    apart : true ≡ false → ⊥
    apart e = cc

-- what the values of a row of pairs say of the steepness of a cell of it
pair_steep : (threshold : ℕ) (value : Cell → ℕ) (axis : Axis) (from : Cell) (first second : List ℕ) (k : ℕ) (t : Bool) → AreAlong value axis from first second → k < length first → differs_by threshold (slice_index first k) (slice_index second k) ≡ t → is_steep threshold value axis (ahead from k) ≡ t
pair_steep threshold value axis from first second k t along inside h =
    sym (λ i. differs_by threshold (along.firsts k inside i) (along.seconds k inside i)) ∙ h

stretch_steep : (threshold : ℕ) (value : Cell → ℕ) (axis : Axis) (from : Cell) (first second : List ℕ) (a n : ℕ) (t : Bool) → AreAlong value axis from first second → a + n ≤ length first → ((k : ℕ) → a ≤ k → k < a + n → differs_by threshold (slice_index first k) (slice_index second k) ≡ t) → (c : Cell) → holds (region (ahead from a) n 1) c ≡ true → is_steep threshold value axis c ≡ t
stretch_steep threshold value axis from first second a n t along fits all c h =
    let place = ahead_of from a n c h in
    ap (is_steep threshold value axis) place.is ∙ pair_steep threshold value axis from first second place.k t along (below place.k (a + n) (length first) place.to_n fits) (all place.k place.from_a place.to_n)
  where
    below : (k m n : ℕ) → k < m → m ≤ n → k < n
    below k m n h g = omega arith

-- no pair of a stretch is steep
pub even_stretch : (threshold : ℕ) (value : Cell → ℕ) (axis : Axis) (from : Cell) (first second : List ℕ) (start end : ℕ) → AreAlong value axis from first second → start ≤ end → end ≤ length first → ((k : ℕ) → start ≤ k → k < end → differs_by threshold (slice_index first k) (slice_index second k) ≡ false) → (c : Cell) → in_steep_pair threshold value axis (region (ahead from start) (end - start) 1) c ≡ false
even_stretch threshold value axis from first second start end along order fits all =
    steep_none threshold value axis (region (ahead from start) (end - start) 1) (stretch_steep threshold value axis from first second start (end - start) false along (omega arith) (λ k h g. all k h (omega arith)))

-- each pair of a stretch is steep
steep_stretch : (threshold : ℕ) (value : Cell → ℕ) (axis : Axis) (from : Cell) (first second : List ℕ) (start end : ℕ) → AreAlong value axis from first second → start < end → end ≤ length first → ((k : ℕ) → start ≤ k → k < end → differs_by threshold (slice_index first k) (slice_index second k) ≡ true) → (c : Cell) → in_steep_pair threshold value axis (region (ahead from start) (end - start) 1) c ≡ holds (with_after axis (region (ahead from start) (end - start) 1)) c
steep_stretch threshold value axis from first second start end along order fits all =
    let some : 1 ≤ end - start = omega arith in
    steep_all threshold value axis (region (ahead from start) (end - start) 1) (wide (from.x +ℤ pos start) (end - start) some) (wide from.y 1 (omega arith)) (stretch_steep threshold value axis from first second start (end - start) true along (omega arith) (λ k h g. all k h (omega arith)))
  where
    wide : (z : ℤ) (n : ℕ) → 1 ≤ n → z ≤ℤ (z +ℤ pos n -ℤ pos 1)
    wide z n h = omega (arith, ints)

-- the pairs of a row from `done` on: none is steep up to `start`, and then each up to `end`
pub next_stretch : (threshold : ℕ) (value : Cell → ℕ) (axis : Axis) (from : Cell) (first second : List ℕ) (done start end : ℕ) → AreAlong value axis from first second → done ≤ start → start < end → end ≤ length first → ((k : ℕ) → done ≤ k → k < start → differs_by threshold (slice_index first k) (slice_index second k) ≡ false) → ((k : ℕ) → start ≤ k → k < end → differs_by threshold (slice_index first k) (slice_index second k) ≡ true) → (c : Cell) → in_steep_pair threshold value axis (region (ahead from done) (end - done) 1) c ≡ holds (with_after axis (region (ahead from start) (end - start) 1)) c
next_stretch threshold value axis from first second done start end along order some fits even steep c =
    let even_part = even_stretch threshold value axis from first second done start along order (omega arith) even c in
    let steep_part = steep_stretch threshold value axis from first second start end along some fits steep c in
    steep_union threshold value axis (region (ahead from done) (start - done) 1) (region (ahead from start) (end - start) 1) (region (ahead from done) (end - done) 1) parts c
    ∙ (λ i. even_part i || steep_part i)
  where
    on : (z : ℤ) (d s : ℕ) → d ≤ s → z +ℤ pos d +ℤ pos (s - d) ≡ z +ℤ pos s
    on z d s h = omega (arith, ints)

    parts : (q : Cell) → holds (region (ahead from done) (end - done) 1) q ≡ (holds (region (ahead from done) (start - done) 1) q || holds (region (ahead from start) (end - start) 1) q)
    parts q =
        row_parts (ahead from done) (start - done) (end - start) (end - done) q (omega arith)
        ∙ (λ i. holds (region (ahead from done) (start - done) 1) q || holds (region (record { x = on from.x done start order i; y = from.y }) (end - start) 1) q)
