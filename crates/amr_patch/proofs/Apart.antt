-- Boxes that have no cell in common, by how many of them hold a cell: in each order, and from a count of any form.
use Rattle.std.proofs.Common.{◌≡◌, ◌∙◌, ℕ, zero, suc, ◌+◌, ◌<◌, ◌≤◌, Bool, true, false, List, [], ◌∷◌, length, cond, refl, sym, ap, arith}
use Rattle.std.specs.Prelude.{slice_index_or}
use Rattle.std.specs.List.{sum_by}
use Rattle.std.specs.List.Sorted.{IsPermutation}
use Rattle.std.proofs.lemmas.List.Sums.{sum_by-cons}
use Rattle.std.proofs.lemmas.List.Sorted.{sum_by-IsPermutation}
use Rattle.std.proofs.lemmas.Bool.{or_right}
use Rattle.amr_box.specs.declared.Cell.{Cell}
use Rattle.std.proofs.lemmas.Int.{ints}
use Rattle.amr_box.specs.Cells.{Extent, IsNear, IsProper, holds, in_boxes}
use Rattle.amr_patch.specs.Patches.{ArePairwiseApart, AreNear}
use Rattle.amr_patch.proofs.Rows.{is_inside}

-- how many of the boxes hold a cell
abbrev pub holders : List Extent → Cell → ℕ
holders [] c = 0
holders (b ∷ bs) c = cond (holds b c) 1 0 + holders bs c

none_hold : (bs : List Extent) (c : Cell) → ((j : ℕ) (d : Extent) → j < length bs → holds (slice_index_or bs j d) c ≡ true → ⊥) → holders bs c ≡ 0
none_hold [] c h = refl
none_hold (b ∷ bs) c h = cases (holds b c) refl (none_hold bs c (λ j d lt. h (suc j) d (omega arith)))
  where
    cases : (t : Bool) → holds b c ≡ t → holders bs c ≡ 0 → cond t 1 0 + holders bs c ≡ 0
    cases true e rest = absurd (h 0 b (omega arith) e)
    cases false e rest = omega (arith, rest)

tail_apart : (b : Extent) (bs : List Extent) → ArePairwiseApart (b ∷ bs) → ArePairwiseApart bs
tail_apart b bs h = λ i j d lt l. h (suc i) (suc j) d (omega arith) (omega arith)

pub one_holder : (bs : List Extent) → ArePairwiseApart bs → (c : Cell) → holders bs c ≤ 1
one_holder [] h c = omega arith
one_holder (b ∷ bs) h c = cases (holds b c) refl (one_holder bs (tail_apart b bs h) c)
  where
    cases : (t : Bool) → holds b c ≡ t → holders bs c ≤ 1 → cond t 1 0 + holders bs c ≤ 1
    cases true e rest = omega (arith, none_hold bs c (λ j d lt f. h 0 (suc j) d (omega arith) (omega arith) c e f))
    cases false e rest = omega (arith, rest)

some_holder : (bs : List Extent) (c : Cell) (j : ℕ) (d : Extent) → j < length bs → holds (slice_index_or bs j d) c ≡ true → 1 ≤ holders bs c
some_holder [] c j d lt e = absurd (omega arith)
some_holder (b ∷ bs) c zero d lt e = rw e (omega arith)
some_holder (b ∷ bs) c (suc j) d lt e = omega (arith, some_holder bs c j d (omega arith) e)

two_holders : (bs : List Extent) (c : Cell) (i j : ℕ) (d : Extent) → i < j → j < length bs → holds (slice_index_or bs i d) c ≡ true → holds (slice_index_or bs j d) c ≡ true → 2 ≤ holders bs c
two_holders [] c i j d g lt e f = absurd (omega arith)
two_holders (b ∷ bs) c i zero d g lt e f = absurd (omega arith)
two_holders (b ∷ bs) c zero (suc j) d g lt e f = rw e (omega (arith, some_holder bs c j d (omega arith) f))
two_holders (b ∷ bs) c (suc i) (suc j) d g lt e f = omega (arith, two_holders bs c i j d (omega arith) (omega arith) e f)

pub apart_by_counts : (bs : List Extent) → ((c : Cell) → holders bs c ≤ 1) → ArePairwiseApart bs
apart_by_counts bs h = λ i j d g lt c e f. let two = two_holders bs c i j d g lt e f in let one = h c in omega (arith, two, one)

-- from any count of the boxes that hold a cell, by what it gives for the empty list and for one box more
pub apart_from_counts : (count : List Extent → Cell → ℕ) → ((c : Cell) → count [] c ≡ 0) → ((b : Extent) (bs : List Extent) (c : Cell) → count (b ∷ bs) c ≡ cond (holds b c) 1 0 + count bs c) → (bs : List Extent) → ((c : Cell) → count bs c ≤ 1) → ArePairwiseApart bs
apart_from_counts count none more bs h = apart_by_counts bs (λ c. omega (arith, same bs c, h c))
  where
    same : (bs : List Extent) (c : Cell) → holders bs c ≡ count bs c
    same [] c = sym (none c)
    same (b ∷ bs) c = ap (λ (n : ℕ). cond (holds b c) 1 0 + n) (same bs c) ∙ sym (more b bs c)

-- ---- in another order

counted : (bs : List Extent) (c : Cell) → sum_by (λ b. cond (holds b c) 1 0) bs ≡ holders bs c
counted [] c = refl
counted (b ∷ bs) c = sum_by-cons (λ (e : Extent). cond (holds e c) 1 0) b bs ∙ ap (λ (n : ℕ). cond (holds b c) 1 0 + n) (counted bs c)

pub apart_in_order : (bs es : List Extent) → IsPermutation bs es → ArePairwiseApart bs → ArePairwiseApart es
apart_in_order bs es p h = apart_by_counts es (λ c. omega (arith, counted bs c, counted es c, sum_by-IsPermutation (λ (b : Extent). cond (holds b c) 1 0) bs es p, one_holder bs h c))

-- ---- near boxes

pub in_boxes_at : (bs : List Extent) (c : Cell) (k : ℕ) (d : Extent) → k < length bs → holds (slice_index_or bs k d) c ≡ true → in_boxes bs c ≡ true
in_boxes_at [] c k d lt e = absurd (omega arith)
in_boxes_at (b ∷ bs) c zero d lt e = rw e refl
in_boxes_at (b ∷ bs) c (suc k) d lt e = or_right (holds b c) (in_boxes bs c) (in_boxes_at bs c k d (omega arith) e)

-- one of the boxes whose cells are near is near
pub near_box : (bs : List Extent) (k : ℕ) (b : Extent) → k < length bs → b ≡ slice_index_or bs k b → IsProper b → AreNear bs → IsNear b
near_box bs k b lt e p near =
    let low = near b.lo (in_boxes_at bs b.lo k b lt (ap (λ (t : Extent). holds t b.lo) (sym e) ∙ is_inside b b.lo (record { west = omega (arith, ints); east = p.wide; south = omega (arith, ints); north = p.high }))) in
    let high = near b.hi (in_boxes_at bs b.hi k b lt (ap (λ (t : Extent). holds t b.hi) (sym e) ∙ is_inside b b.hi (record { west = p.wide; east = omega (arith, ints); south = p.high; north = omega (arith, ints) }))) in
    record { west = low.west; east = high.east; south = low.south; north = high.north; wide = p.wide; high = p.high }
