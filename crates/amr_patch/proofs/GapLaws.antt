-- From a cell that no patch has up to where the next column and the next row of patches start, no patch has any.
use Rattle.std.proofs.Common.{◌≡◌, ◌∙◌, ℕ, zero, suc, ◌+◌, ◌-◌, ◌<◌, ◌≤◌, ◌⊎◌, inl, inr, true, false, ℤ, pos, ◌+ℤ◌, ◌≤ℤ◌, ◌<ℤ◌, List, [], ◌∷◌, ◌++◌, length, map, take, sym, ap, subst, arith}
use Rattle.std.specs.Prelude.{int_le, slice_index_or, Contains, IfSome}
use Rattle.std.specs.List.{All}
use Rattle.std.specs.List.Sorted.{IsPartitionPoint, IsPartitionedBy, IsPermutation, IsSorted}
use Rattle.std.specs.declared.option.Option.{Option}
use Rattle.std.specs.declared.option.Option.TheVariants.{None, Some}
use Rattle.std.specs.declared.cmp.Ordering.{Ordering}
use Rattle.std.specs.declared.cmp.Ordering.TheVariants.{Equal, Greater, Less}
use Rattle.std.specs.Cmp.{int_ranks}
use Rattle.std.specs.Ordering.{MatchOrdering, int_cmp, is_lt}
use Rattle.std.proofs.lemmas.Int.{ints}
use Rattle.std.proofs.lemmas.Bool.{cases_eq, cases_lt, false_from_ne_true}
use Rattle.std.proofs.lemmas.List.{get_or-map, get_or_default, length-map, map-append, take_all, take_more}
use Rattle.std.proofs.lemmas.List.Sorted.{Contains-permutation}
use Rattle.std.proofs.lemmas.List.Elements.{All-contains}
use Rattle.std.proofs.lemmas.List.Folds.{Any-from_list_any, list_any_at}
use Rattle.amr_box.specs.declared.Cell.{Cell}
use Rattle.amr_box.specs.Cells.{Extent, cell, extent, holds}
use Rattle.amr_box.proofs.Boxes.{int_le-yes}
use Rattle.amr_box.proofs.Numbers.{above_from, le_from}
use Rattle.amr_box.proofs.Tests.{opposite}
use Rattle.amr_patch.specs.declared.patches.Patch.{Patch}
use Rattle.amr_patch.specs.Patches.{box, in_patches}
use Rattle.amr_patch.proofs.Rows.{inside, is_inside}
use Rattle.amr_patch.specs.declared.gaps.Starts.{Starts}
use Rattle.amr_patch.specs.Gaps.{Ascends, HasStarts, IsGap}

pub parted : (zs : List ℤ) (z : ℤ) → Ascends zs → IsPartitionedBy (λ s. int_le s z) zs
parted zs z up i j d le lt h = by_place (cases_eq i j)
  where
    by_place : (i ≡ j) ⊎ (i ≡ j → ⊥) → int_le (slice_index_or zs i d) z ≡ true
    by_place (inl e) = ap (λ (n : ℕ). int_le (slice_index_or zs n d) z) e ∙ h
    by_place (inr ne) =
        let below : slice_index_or zs i d ≤ℤ slice_index_or zs j d = up i j d (omega arith) lt in
        let most : slice_index_or zs j d ≤ℤ z = le_from (slice_index_or zs j d) z h in
        int_le-yes (slice_index_or zs i d) z (omega (arith, ints, below, most))

-- each of the numbers is at most z or above `last`
abbrev AreNone : ℤ → ℤ → List ℤ → Type 0
AreNone z last zs = All (λ s. (s ≤ℤ z) ⊎ (last <ℤ s)) zs

module _ (zs : List ℤ) (z : ℤ) (k : ℕ) (parts : IsPartitionPoint (λ s. int_le s z ≡ true) (λ s. int_le s z ≡ false) zs k) where
  module _ (next : ℤ) (up : Ascends zs) (there : k < length zs) (at : next ≡ slice_index_or zs k next) where
    at_any : (d : ℤ) → slice_index_or zs k d ≡ next
    at_any d = get_or_default zs k d next there ∙ sym at

    pub next_above : z <ℤ next
    next_above = let h : z <ℤ slice_index_or zs k next = above_from (slice_index_or zs k next) z (parts.1 k next (omega arith) there) in omega (arith, ints, h, at)

    pub none_between : (last : ℤ) → last +ℤ pos 1 ≡ next → AreNone z last zs
    none_between last e j d lt = by_place (cases_lt j k) (cases_eq j k)
      where
        by_place : (j < k) ⊎ (k ≤ j) → (j ≡ k) ⊎ (j ≡ k → ⊥) → (slice_index_or zs j d ≤ℤ z) ⊎ (last <ℤ slice_index_or zs j d)
        by_place (inl below) other = inl (le_from (slice_index_or zs j d) z (parts.0 j d (omega arith) below))
        by_place (inr past) (inl same) = inr (let h : slice_index_or zs j d ≡ next = ap (λ (n : ℕ). slice_index_or zs n d) same ∙ at_any d in omega (arith, ints, h, e))
        by_place (inr past) (inr ne) = inr (let h : slice_index_or zs k d ≤ℤ slice_index_or zs j d = up k j d (omega arith) lt in omega (arith, ints, h, at_any d, e))

-- ---- gaps

pub gap_is : (ps : List Patch) (s : Starts) (c : Cell) (x y : ℤ) → HasStarts ps s → in_patches ps c ≡ false → AreNone c.x x s.columns.items → AreNone c.y y s.rows.items → (k : Cell) → holds (extent c (cell x y)) k ≡ true → in_patches ps k ≡ false
gap_is ps s c x y starts none columns rows k h = false_from_ne_true (in_patches ps k) (λ t.
    let one = Any-from_list_any (λ (q : Patch). holds (box q) k) ps t in
    let q = slice_index_or ps one.0 one.1 in
    let held : holds (box q) k ≡ true = ap (λ (r : Patch). holds (box r) k) one.3 ∙ one.4 in
    let begins = starts.each one.0 one.1 one.2 in
    let i = inside (box q) k held in
    let g = inside (extent c (cell x y)) k h in
    let left = from (box q).lo.x c.x x k.x (All-contains (λ (z : ℤ). (z ≤ℤ c.x) ⊎ (x <ℤ z)) s.columns.items (box q).lo.x columns begins.0) i.west g.east in
    let low = from (box q).lo.y c.y y k.y (All-contains (λ (z : ℤ). (z ≤ℤ c.y) ⊎ (y <ℤ z)) s.rows.items (box q).lo.y rows begins.1) i.south g.north in
    let there : holds (box q) c ≡ true = is_inside (box q) c (record { west = left; east = omega (arith, ints, i.east, g.west); south = low; north = omega (arith, ints, i.north, g.south) }) in
    opposite (list_any_at (λ (r : Patch). holds (box r) c) ps one.0 one.1 one.2 there) none)
  where
    from : (low z last at : ℤ) → (low ≤ℤ z) ⊎ (last <ℤ low) → low ≤ℤ at → at ≤ℤ last → low ≤ℤ z
    from low z last at (inl h) a b = h
    from low z last at (inr h) a b = absurd (omega (arith, ints, h, a, b))

-- the same of numbers and lists that are these
pub same_none : (z z' last last' : ℤ) (xs ys : List ℤ) → AreNone z last xs → z ≡ z' → last ≡ last' → xs ≡ ys → AreNone z' last' ys
same_none z z' last last' xs ys h e f g = subst (λ (zs : List ℤ). AreNone z' last' zs) g (subst (λ (l : ℤ). AreNone z' l xs) f (subst (λ (y : ℤ). AreNone y last xs) e h))

pub gap_of : (ps : List Patch) (o : Option Extent) (e : Extent) → IfSome o (λ b. b ≡ e) → ((k : Cell) → holds e k ≡ true → in_patches ps k ≡ false) → IsGap ps o
gap_of ps None e h g = tt
gap_of ps (Some b) e h g = subst (λ (t : Extent). (k : Cell) → holds t k ≡ true → in_patches ps k ≡ false) (sym h) g

-- ---- lists in order

not_above : (a b : ℤ) → is_lt (int_cmp b a) ≡ false → a ≤ℤ b
not_above a b h = cases (int_cmp b a) (int_ranks b a) h
  where
    cases : (o : Ordering) → MatchOrdering o (b <ℤ a) (b ≡ a) (a <ℤ b) → is_lt o ≡ false → a ≤ℤ b
    cases Less m e = absurd (cc)
    cases Equal m e = omega (arith, ints, m)
    cases Greater m e = omega (arith, ints, m)

module _ (zs : List ℤ) (sorted : IsSorted int_cmp zs) where
  next : (k : ℕ) (d : ℤ) → k + 1 < length zs → slice_index_or zs k d ≤ℤ slice_index_or zs (k + 1) d
  next k d lt = not_above (slice_index_or zs k d) (slice_index_or zs (k + 1) d) (sorted k d (omega arith) lt)

  far : (i n : ℕ) (d : ℤ) → i + 1 + n < length zs → slice_index_or zs i d ≤ℤ slice_index_or zs (i + 1 + n) d
  far i zero d lt = let one : i + 1 ≡ i + 1 + 0 = omega arith in subst (λ (j : ℕ). slice_index_or zs i d ≤ℤ slice_index_or zs j d) one (next i d (omega (arith, lt)))
  far i (suc n) d lt =
      let before : slice_index_or zs i d ≤ℤ slice_index_or zs (i + 1 + n) d = far i n d (omega (arith, lt)) in
      let one : i + 1 + n + 1 ≡ i + 1 + suc n = omega arith in
      let after : slice_index_or zs (i + 1 + n) d ≤ℤ slice_index_or zs (i + 1 + n + 1) d = next (i + 1 + n) d (omega (arith, lt)) in
      subst (λ (j : ℕ). slice_index_or zs i d ≤ℤ slice_index_or zs j d) one (omega (arith, ints, before, after))

  pub ascends : Ascends zs
  ascends i j d up lt =
      let there : i + 1 + (j - (i + 1)) ≡ j = omega (arith, up) in
      subst (λ (n : ℕ). slice_index_or zs i d ≤ℤ slice_index_or zs n d) there (far i (j - (i + 1)) d (omega (arith, there, lt)))

pub begins_among : (f : Patch → ℤ) (ps : List Patch) (n : ℕ) (zs ys : List ℤ) → length ps ≤ n → zs ≡ map f (take n ps) → IsPermutation zs ys → (k : ℕ) (q : Patch) → k < length ps → Contains ys (f (slice_index_or ps k q))
begins_among f ps n zs ys all is moved k q lt =
    let whole : zs ≡ map f ps = is ∙ ap (map f) (take_all n ps all) in
    Contains-permutation zs ys (f (slice_index_or ps k q)) moved
    (subst (λ (xs : List ℤ). Contains xs (f (slice_index_or ps k q))) (sym whole) (k, omega (arith, lt, length-map ps f), get_or-map f ps k q (f (slice_index_or ps k q)) lt))

pub one_begins : (f : Patch → ℤ) (ps : List Patch) (i : ℕ) (q : Patch) (zs : List ℤ) (z : ℤ) → i < length ps → q ≡ slice_index_or ps i q → zs ≡ map f (take i ps) → z ≡ f q → zs ++ z ∷ [] ≡ map f (take (i + 1) ps)
one_begins f ps i q zs z lt at before is =
    (λ j. before j ++ (is ∙ ap f at) j ∷ [])
    ∙ sym (map-append f (take i ps) (slice_index_or ps i q ∷ []))
    ∙ ap (map f) (sym (take_more ps i q lt))

-- patches with the boxes of others start where those do
pub starts_of_boxes : (ps qs : List Patch) (s : Starts) → map box qs ≡ map box ps → HasStarts ps s → HasStarts qs s
starts_of_boxes ps qs s e h = record { columns = h.columns; rows = h.rows; each = each }
  where
    each : All (λ q. Contains s.columns.items (box q).lo.x × Contains s.rows.items (box q).lo.y) qs
    each k q lt =
        let n : length qs ≡ length ps = sym (length-map qs box) ∙ ap length e ∙ length-map ps box in
        let there : k < length ps = omega (arith, n, lt) in
        let b : box (slice_index_or ps k q) ≡ box (slice_index_or qs k q) = sym (get_or-map box ps k q (box q) there) ∙ ap (λ (bs : List Extent). slice_index_or bs k (box q)) (sym e) ∙ get_or-map box qs k q (box q) lt in
        let begins = h.each k q there in
        (subst (λ (t : Extent). Contains s.columns.items t.lo.x) b begins.0, subst (λ (t : Extent). Contains s.rows.items t.lo.y) b begins.1)
