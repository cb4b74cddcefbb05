-- Which of several patches has a cell.
use Rattle.std.proofs.Common.{◌≡◌, ◌∙◌, ℕ, zero, suc, ◌+◌, ◌-◌, ◌<◌, ◌≤◌, ◌⊎◌, inl, inr, below_more, Bool, true, false, ◌||◌, ℤ, pos, negsuc, ◌+ℤ◌, ◌-ℤ◌, ◌≤ℤ◌, ◌<ℤ◌, List, [], ◌∷◌, length, cond, refl, sym, ap, arith}
use Rattle.std.specs.Prelude.{int_le, is_some, slice_index_or, IsTrue}
use Rattle.std.specs.List.{All}
use Rattle.std.specs.List.Sorted.{IsPartitionPoint}
use Rattle.std.specs.declared.option.Option.{Option}
use Rattle.std.specs.declared.option.Option.TheVariants.{None, Some}
use Rattle.std.proofs.lemmas.Int.{ints, clamps}
use Rattle.std.proofs.lemmas.Bool.{or_right, cases_lt, cases_eq, false_from_ne_true}
use Rattle.std.specs.Int.{int_min}
use Rattle.amr_box.specs.declared.Cell.{Cell}
use Rattle.amr_box.specs.Cells.{Extent, at_least_zero, cell, height, holds}
use Rattle.amr_box.proofs.Tests.{opposite}
use Rattle.amr_patch.specs.declared.patches.Patch.{Patch}
use Rattle.amr_patch.specs.Patches.{ArePatchesApart, box, in_patches, mass_in, masses_in}
use Rattle.amr_patch.specs.Orders.{AreAtMostHigh, AreInRows, IsHolder, comes_first}
use Rattle.amr_patch.proofs.Rows.{inside, is_inside, sides}

-- ---- what is in the patches

pub in_none : (ps : List Patch) (c : Cell) → All (λ p. IsTrue (holds (box p) c) → ⊥) ps → in_patches ps c ≡ false
in_none [] c h = refl
in_none (p ∷ ps) c h = rw (false_from_ne_true (holds (box p) c) (h 0 p (omega arith))) (in_none ps c (λ k d lt. h (suc k) d (omega arith)))

pub in_one : (ps : List Patch) (c : Cell) (i : ℕ) → IsHolder ps c i → in_patches ps c ≡ true
in_one [] c i h = let lt : i < 0 = h.inside in absurd (omega arith)
in_one (p ∷ ps) c zero h = rw (h.holds_it p) refl
in_one (p ∷ ps) c (suc i) h = or_right (holds (box p) c) (in_patches ps c) (in_one ps c i (record { inside = let lt : suc i < suc (length ps) = h.inside in omega arith; holds_it = λ d. h.holds_it d }))

-- whether a cell has a mass
some_cases : (t : Bool) (a : ℕ) (x : Option ℕ) (r : Bool) → is_some x ≡ r → is_some (cond t (Some a) x) ≡ (t || r)
some_cases true a x r e = refl
some_cases false a x r e = e

pub some_mass : (ps : List Patch) (c : Cell) → is_some (masses_in ps c) ≡ in_patches ps c
some_mass [] c = refl
some_mass (p ∷ ps) c = some_cases (holds (box p) c) (mass_in p c) (masses_in ps c) (in_patches ps c) (some_mass ps c)

apart_tail : (p : Patch) (ps : List Patch) → ArePatchesApart (p ∷ ps) → ArePatchesApart ps
apart_tail p ps h = λ i j d lt k. h (suc i) (suc j) d (omega arith) (omega arith)

pub masses_in-none : (ps : List Patch) (c : Cell) → in_patches ps c ≡ false → masses_in ps c ≡ None
masses_in-none [] c e = refl
masses_in-none (p ∷ ps) c e = cases (holds (box p) c) refl (masses_in-none ps c)
  where
    cases : (t : Bool) → holds (box p) c ≡ t → (in_patches ps c ≡ false → masses_in ps c ≡ None) → cond t (Some (mass_in p c)) (masses_in ps c) ≡ None
    cases true f rest = absurd (cc)
    cases false f rest = rest (ap (λ (t : Bool). t || in_patches ps c) (sym f) ∙ e)

-- the mass of a cell in the patch that has it
pub masses_in-at : (ps : List Patch) (c : Cell) (i : ℕ) (d : Patch) → ArePatchesApart ps → IsHolder ps c i → masses_in ps c ≡ Some (mass_in (slice_index_or ps i d) c)
masses_in-at [] c i d a h = let lt : i < 0 = h.inside in absurd (omega arith)
masses_in-at (p ∷ ps) c zero d a h = rw (h.holds_it d) refl
masses_in-at (p ∷ ps) c (suc i) d a h =
    let lt : suc i < suc (length ps) = h.inside in
    let other : holds (box p) c ≡ false = false_from_ne_true (holds (box p) c) (λ e. a 0 (suc i) d (omega arith) lt c e (h.holds_it d)) in
    rw other (masses_in-at ps c i d (apart_tail p ps a) (record { inside = omega arith; holds_it = λ d. h.holds_it d }))

pub same_default : {A : Type 0} (xs : List A) (i : ℕ) (d e : A) → i < length xs → slice_index_or xs i d ≡ slice_index_or xs i e
same_default [] i d e h = absurd (omega arith)
same_default (x ∷ xs) zero d e h = refl
same_default (x ∷ xs) (suc i) d e h = same_default xs i d e (omega arith)

-- one patch has a cell
pub one_patch : (ps : List Patch) (c : Cell) (i j : ℕ) (d : Patch) → ArePatchesApart ps → i < length ps → j < length ps → holds (box (slice_index_or ps i d)) c ≡ true → holds (box (slice_index_or ps j d)) c ≡ true → i ≡ j
one_patch ps c i j d apart lt l e f = cases (cases_lt i j) (cases_lt j i)
  where
    cases : (i < j) ⊎ (j ≤ i) → (j < i) ⊎ (i ≤ j) → i ≡ j
    cases (inl g) k = absurd (apart i j d g l c e f)
    cases (inr g) (inl k) = absurd (apart j i d k lt c f e)
    cases (inr g) (inr k) = omega arith

-- what a patch of the list says, whatever stands for a place beyond its end
pub holder : (ps : List Patch) (c : Cell) (i : ℕ) (p : Patch) → i < length ps → p ≡ slice_index_or ps i p → holds (box p) c ≡ true → IsHolder ps c i
holder ps c i p lt e h = record { inside = lt; holds_it = λ d. ap (λ (q : Patch). holds (box q) c) (same_default ps i d p lt ∙ sym e) ∙ h }

-- ---- row by row

pub comes_first-rows : (a b : Cell) → comes_first a b ≡ true → a.y ≤ℤ b.y
comes_first-rows a b h = grind (arith, ints)

comes_first-columns : (a b : Cell) → comes_first a b ≡ true → a.y ≡ b.y → a.x ≤ℤ b.x
comes_first-columns a b h e = grind (arith, ints)

pub comes_first-below : (a b : Cell) → a.y <ℤ b.y → comes_first a b ≡ true
comes_first-below a b h = grind (arith, ints)

pub comes_first-yes : (a b : Cell) → a.y ≤ℤ b.y → a.x ≤ℤ b.x → comes_first a b ≡ true
comes_first-yes a b h k = grind (arith, ints)

pub comes_first-trans : (a b c : Cell) → comes_first a b ≡ true → comes_first b c ≡ true → comes_first a c ≡ true
comes_first-trans a b c h k = grind (arith, ints)

abbrev pub FollowsAt : List Patch → ℕ → ℕ → Type 0
FollowsAt ps i j = (d : Patch) → comes_first (box (slice_index_or ps i d)).lo (box (slice_index_or ps j d)).lo ≡ true

pub rows_more : (ps : List Patch) (k : ℕ) → ((i j : ℕ) (d : Patch) → i < j → j < k → comes_first (box (slice_index_or ps i d)).lo (box (slice_index_or ps j d)).lo ≡ true) → ((d : Patch) → 0 < k → comes_first (box (slice_index_or ps (k - 1) d)).lo (box (slice_index_or ps k d)).lo ≡ true) → (i j : ℕ) (d : Patch) → i < j → j < k + 1 → comes_first (box (slice_index_or ps i d)).lo (box (slice_index_or ps j d)).lo ≡ true
rows_more ps k old here i j d h l = below_more (λ m. i < m → FollowsAt ps i m) k (λ m lt g e. old i m e g lt) (λ g e. last k here old i g e) j l h d
  where
    last : (k : ℕ) → ((d : Patch) → 0 < k → comes_first (box (slice_index_or ps (k - 1) d)).lo (box (slice_index_or ps k d)).lo ≡ true) → ((i j : ℕ) (d : Patch) → i < j → j < k → comes_first (box (slice_index_or ps i d)).lo (box (slice_index_or ps j d)).lo ≡ true) → (i : ℕ) → i < k → FollowsAt ps i k
    last zero here old i g e = absurd (omega arith)
    last (suc m) here old i g e =
        let back : suc m - 1 ≡ m = omega arith in
        let step : comes_first (box (slice_index_or ps m e)).lo (box (slice_index_or ps (suc m) e)).lo ≡ true = ap (λ (n : ℕ). comes_first (box (slice_index_or ps n e)).lo (box (slice_index_or ps (suc m) e)).lo) (sym back) ∙ here e (omega arith) in
        below_more (λ n. FollowsAt ps n (suc m)) m (λ n lt f. comes_first-trans (box (slice_index_or ps n f)).lo (box (slice_index_or ps m f)).lo (box (slice_index_or ps (suc m) f)).lo (old n m f lt (omega arith)) (ap (λ (n : ℕ). comes_first (box (slice_index_or ps n f)).lo (box (slice_index_or ps (suc m) f)).lo) (sym back) ∙ here f (omega arith))) (λ f. ap (λ (n : ℕ). comes_first (box (slice_index_or ps n f)).lo (box (slice_index_or ps (suc m) f)).lo) (sym back) ∙ here f (omega arith)) i (omega arith) e

-- the patches that start at or before a cell stand first
pub parted : (ps : List Patch) (c : Cell) → AreInRows ps → (i j : ℕ) (d : Patch) → i ≤ j → j < length ps → comes_first (box (slice_index_or ps j d)).lo c ≡ true → comes_first (box (slice_index_or ps i d)).lo c ≡ true
parted ps c sorted i j d h l e = cases (cases_eq i j)
  where
    cases : ((i ≡ j) ⊎ (i ≡ j → ⊥)) → comes_first (box (slice_index_or ps i d)).lo c ≡ true
    cases (inl k) = ap (λ (n : ℕ). comes_first (box (slice_index_or ps n d)).lo c) k ∙ e
    cases (inr k) = comes_first-trans (box (slice_index_or ps i d)).lo (box (slice_index_or ps j d)).lo c (sorted i j d (omega arith) l) e

-- so many do, where the last of them does and the next one doesn't
pub is_point : (ps : List Patch) (c : Cell) (n : ℕ) → AreInRows ps → ((p : Patch) → 0 < n → comes_first (box (slice_index_or ps (n - 1) p)).lo c ≡ true) → ((p : Patch) → n < length ps → comes_first (box (slice_index_or ps n p)).lo c ≡ false) → n ≤ length ps
    → IsPartitionPoint (λ p. comes_first (box p).lo c ≡ true) (λ p. comes_first (box p).lo c ≡ false) ps n
is_point ps c n sorted last next within = (λ k d from lt. early k d lt, λ k d from lt. late k d from lt)
  where
    early : (k : ℕ) (d : Patch) → k < n → comes_first (box (slice_index_or ps k d)).lo c ≡ true
    early k d lt = parted ps c sorted k (n - 1) d (omega arith) (omega arith) (last d (omega arith))

    late : (k : ℕ) (d : Patch) → n ≤ k → k < length ps → comes_first (box (slice_index_or ps k d)).lo c ≡ false
    late k d from lt = false_from_ne_true _ (λ h. opposite (parted ps c sorted n k d from lt h) (next d (omega arith)))

-- ---- the search

abbrev pub Reaches : List Patch → Cell → ℤ → Type 0
Reaches ps c y = All (λ p. IsTrue (holds (box p) c) → (box p).lo.y ≤ℤ y) ps

starts : (p : Patch) (c : Cell) (y : ℤ) → holds (box p) c ≡ true → (box p).lo.y ≤ℤ y → comes_first (box p).lo (cell c.x y) ≡ true
starts p c y h k = comes_first-yes (box p).lo (cell c.x y) k (inside (box p) c h).west

pub none_starts : (ps : List Patch) (c : Cell) (y : ℤ) → Reaches ps c y → ((i : ℕ) (d : Patch) → 0 ≤ i → i < length ps → comes_first (box (slice_index_or ps i d)).lo (cell c.x y) ≡ false) → in_patches ps c ≡ false
none_starts ps c y reach none = in_none ps c (λ i d lt h. apart (sym (starts (slice_index_or ps i d) c y h (reach i d lt h)) ∙ none i d (omega arith) lt))
  where
    apart : true ≡ false → ⊥
    apart e = cc

low_corner : (p : Patch) → holds (box p) (box p).lo ≡ true
low_corner p = is_inside (box p) (box p).lo (record { west = omega (arith, ints); east = p.near.wide; south = omega (arith, ints); north = p.near.high })

-- two patches that start in one row, the second not right of a cell of the first, share a cell
shared : (p q : Patch) (c : Cell) → holds (box p) c ≡ true → (box p).lo.y ≡ (box q).lo.y → (box p).lo.x ≤ℤ (box q).lo.x → (box q).lo.x ≤ℤ c.x → holds (box p) (box q).lo ≡ true
shared p q c h e l r =
    let i = inside (box p) c h in
    let high = p.near.high in
    is_inside (box p) (box q).lo (record { west = l; east = omega (arith, ints, i.east); south = omega (arith, ints, e); north = omega (arith, ints, e, high) })

at_most_or_above : (a b : ℤ) → (a ≤ℤ (b -ℤ pos 1)) ⊎ (b ≤ℤ a)
at_most_or_above a b = cases (int_le b a) refl
  where
    cases : (t : Bool) → int_le b a ≡ t → (a ≤ℤ (b -ℤ pos 1)) ⊎ (b ≤ℤ a)
    cases true e = inr (grind (arith, ints))
    cases false e = inl (grind (arith, ints))

starts_lower : (p q : Patch) (c : Cell) (y z : ℤ) → holds (box p) c ≡ true → comes_first (box p).lo (box q).lo ≡ true → comes_first (box q).lo (cell c.x y) ≡ true → (box p).lo.y ≤ℤ y → (holds (box p) (box q).lo ≡ true → ⊥) → (((box q).lo.y ≤ℤ z) ⊎ ((y -ℤ pos 1) ≤ℤ z)) → (box p).lo.y ≤ℤ z
starts_lower p q c y z h first second low alone (inl k) = let r = comes_first-rows (box p).lo (box q).lo first in omega (arith, ints, r, k)
starts_lower p q c y z h first second low alone (inr k) = cases (at_most_or_above (box p).lo.y y)
  where
    cases : ((box p).lo.y ≤ℤ (y -ℤ pos 1)) ⊎ (y ≤ℤ (box p).lo.y) → (box p).lo.y ≤ℤ z
    cases (inl l) = omega (arith, ints, l, k)
    cases (inr l) =
        let r = comes_first-rows (box p).lo (box q).lo first in
        let s = comes_first-rows (box q).lo (cell c.x y) second in
        let level : (box p).lo.y ≡ (box q).lo.y = omega (arith, ints, l, r, s) in
        let top : (box q).lo.y ≡ y = omega (arith, ints, l, r, s) in
        absurd (alone (shared p q c h level (comes_first-columns (box p).lo (box q).lo first level) (comes_first-columns (box q).lo (cell c.x y) second top)))

-- the last patch that starts at or before the cell in row y doesn't have it: so one that has it starts no higher than that
-- patch does, and below y
pub goes_down : (ps : List Patch) (c : Cell) (y z : ℤ) (n : ℕ) (q : Patch) → AreInRows ps → ArePatchesApart ps → Reaches ps c y → n < length ps → q ≡ slice_index_or ps n q → ((i : ℕ) (d : Patch) → 0 ≤ i → i < n + 1 → comes_first (box (slice_index_or ps i d)).lo (cell c.x y) ≡ true) → ((i : ℕ) (d : Patch) → n + 1 ≤ i → i < length ps → comes_first (box (slice_index_or ps i d)).lo (cell c.x y) ≡ false) → holds (box q) c ≡ false → (((box q).lo.y ≤ℤ z) ⊎ ((y -ℤ pos 1) ≤ℤ z)) → Reaches ps c z
goes_down ps c y z n q sorted apart reach lt at_n before after not_here down i d l h = earlier (cases_lt i (n + 1)) (cases_eq i n)
  where
    earlier : (i < n + 1) ⊎ (n + 1 ≤ i) → (i ≡ n) ⊎ (i ≡ n → ⊥) → (box (slice_index_or ps i d)).lo.y ≤ℤ z
    earlier (inr g) e = absurd (clash (sym (starts (slice_index_or ps i d) c y h (reach i d l h)) ∙ after i d g l))
      where
        clash : true ≡ false → ⊥
        clash f = cc
    earlier (inl g) (inl e) = absurd (clash (sym h ∙ ap (λ (m : ℕ). holds (box (slice_index_or ps m d)) c) e ∙ ap (λ (r : Patch). holds (box r) c) (same_default ps n d q lt ∙ sym at_n) ∙ not_here))
      where
        clash : true ≡ false → ⊥
        clash f = cc
    earlier (inl g) (inr e) =
        let is_q : slice_index_or ps n d ≡ q = same_default ps n d q lt ∙ sym at_n in
        let p = slice_index_or ps i d in
        starts_lower p q c y z h
        (ap (λ (r : Patch). comes_first (box p).lo (box r).lo) (sym is_q) ∙ sorted i n d (omega arith) lt)
        (ap (λ (r : Patch). comes_first (box r).lo (cell c.x y)) at_n ∙ before n q (omega arith) (omega arith))
        (reach i d l h)
        (λ s. apart i n d (omega arith) lt (box q).lo s (ap (λ (r : Patch). holds (box r) (box q).lo) is_q ∙ low_corner q))
        down

pub one_of_both : (a b : ℤ) → (a ≤ℤ int_min a b) ⊎ (b ≤ℤ int_min a b)
one_of_both a b = cases (at_most_or_above a b)
  where
    cases : (a ≤ℤ (b -ℤ pos 1)) ⊎ (b ≤ℤ a) → (a ≤ℤ int_min a b) ⊎ (b ≤ℤ int_min a b)
    cases (inl e) = inl (omega (arith, ints, clamps, e))
    cases (inr e) = inr (omega (arith, ints, clamps, e))

-- a patch that starts so far below a cell doesn't reach it
pub none_reaches : (ps : List Patch) (c : Cell) (y : ℤ) (tallest : ℕ) → Reaches ps c y → AreAtMostHigh tallest ps → y ≤ℤ (c.y -ℤ pos tallest) → in_patches ps c ≡ false
none_reaches ps c y tallest reach high low = in_none ps c (λ i d l h. too_low (slice_index_or ps i d) h (reach i d l h) (high i d l))
  where
    too_low : (p : Patch) → holds (box p) c ≡ true → (box p).lo.y ≤ℤ y → height (box p) ≤ tallest → ⊥
    too_low p h r k =
        let s = sides (box p) p.near in
        let i = inside (box p) c h in
        omega (arith, ints, s.high, i.north, low, r, k)

pub shrinks : (y z b : ℤ) → b <ℤ y → z <ℤ y → at_least_zero (z -ℤ b) < at_least_zero (y -ℤ b)
shrinks y z b h k = shorter (y -ℤ b) (z -ℤ b) (omega (arith, ints)) (omega (arith, ints))
  where
    shorter : (u v : ℤ) → pos 0 <ℤ u → v <ℤ u → at_least_zero v < at_least_zero u
    shorter (pos m) (pos n) p q = omega (arith, ints)
    shorter (pos m) (negsuc n) p q = omega (arith, ints)
    shorter (negsuc m) v p q = absurd (omega (arith, ints))

pub going_down : (start y a b z : ℤ) → z ≡ int_min a b → a ≡ start → b ≡ y -ℤ pos 1 → (start ≤ℤ z) ⊎ ((y -ℤ pos 1) ≤ℤ z)
going_down start y a b z e f g = cases (one_of_both a b)
  where
    cases : (a ≤ℤ int_min a b) ⊎ (b ≤ℤ int_min a b) → (start ≤ℤ z) ⊎ ((y -ℤ pos 1) ≤ℤ z)
    cases (inl h) = inl (omega (arith, ints, e, f, h))
    cases (inr h) = inr (omega (arith, ints, e, g, h))

-- ---- patches that may reach rows

-- one that starts in a row so far below ends below, too
pub ends_below : (b : Extent) (x y low : ℤ) (tallest : ℕ) → height b ≤ tallest → y ≡ low -ℤ pos tallest → comes_first b.lo (cell x y) ≡ true → b.hi.y <ℤ low
ends_below b x y low tallest h is e =
    let row = comes_first-rows b.lo (cell x y) e in
    grind (arith, ints, row, h, is)

pub starts_above : (a : Cell) (x y high : ℤ) → y ≡ high +ℤ pos 1 → comes_first a (cell x y) ≡ false → high <ℤ a.y
starts_above a x y high is e = cases (at_most_or_above a.y y)
  where
    cases : (a.y ≤ℤ (y -ℤ pos 1)) ⊎ (y ≤ℤ a.y) → high <ℤ a.y
    cases (inl l) = absurd (opposite (comes_first-below a (cell x y) (omega (arith, ints, l))) e)
    cases (inr g) = omega (arith, ints, g, is)
