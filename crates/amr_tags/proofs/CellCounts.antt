-- The number of a box's tagged cells in a part of it, row by row.
use Rattle.std.proofs.Common.{◌≡◌, ℕ, zero, suc, ◌+◌, ◌-◌, ◌*◌, ◌/◌, ◌<◌, ◌≤◌, Bool, true, false, ◌&&◌, cond, ℤ, pos, ◌+ℤ◌, ◌-ℤ◌, ◌≤ℤ◌, ◌<ℤ◌, negsuc, refl, sym, ap, ◌∙◌, arith, List, [], ◌∷◌, map, length, subst}
use Rattle.std.proofs.lemmas.Nat.{row_fits}
use Rattle.std.specs.Prelude.{nat_le, unsigned_abs}
use Rattle.std.specs.List.{count_by, flat_map, range_with_len, sum_by}
use Rattle.std.proofs.lemmas.Int.{ints, clamps}
use Rattle.std.proofs.lemmas.Bool.Decides.{nat_tests}
use Rattle.std.proofs.lemmas.List.Concat.{flat_map-cons}
use Rattle.std.proofs.lemmas.List.Sums.{sum_by-append, sum_by-cons}
use Rattle.std.proofs.lemmas.Bool.{and_left, le-leb}
use Rattle.amr_box.specs.declared.Cell.{Cell}
use Rattle.amr_box.specs.Cells.{AreDisjoint, Extent, IsProper, at_least_zero, cell, common, cells_of, height, holds, width, within}
use Rattle.amr_box.proofs.Tests.{and_turned}
use Rattle.amr_tags.specs.Bits.{bit_of, words_for}
use Rattle.amr_tags.specs.Parts.{IsWindow, count_from, in_columns, row_count, rows_from}
use Rattle.amr_tags.specs.Stored.{IsPart}
use Rattle.amr_tags.specs.TagSets.{column_in, row_in}
use Rattle.amr_tags.proofs.Counts.{rows-append, rows-none, rows-same}

-- ---- a sum over the cells of a box

along_row : (g : Cell → ℕ) (f : ℕ → Cell) (a n : ℕ) → sum_by g (map f (range_with_len a n)) ≡ rows_from (λ i. g (f i)) a n
along_row g f a zero = refl
along_row g f a (suc n) = sum_by-cons g (f a) (map f (range_with_len (a + 1) n)) ∙ ap (λ t. g (f a) + t) (along_row g f (a + 1) n)

over_rows : (g : Cell → ℕ) (row : ℕ → List Cell) (a n : ℕ) → sum_by g (flat_map row (range_with_len a n)) ≡ rows_from (λ j. sum_by g (row j)) a n
over_rows g row a zero = refl
over_rows g row a (suc n) = rw flat_map-cons (sum_by-append g (row a) (flat_map row (range_with_len (a + 1) n)) ∙ ap (λ t. sum_by g (row a) + t) (over_rows g row (a + 1) n))

pub cells-sum : (test : Cell → Bool) (b : Extent) → count_by test (cells_of b) ≡ rows_from (λ j. count_from (λ i. test (cell (b.lo.x +ℤ pos i) (b.lo.y +ℤ pos j))) 0 (width b)) 0 (height b)
cells-sum test b =
    over_rows (λ c. cond (test c) 1 0) (λ j. map (λ i. cell (b.lo.x +ℤ pos i) (b.lo.y +ℤ pos j)) (range_with_len 0 (width b))) 0 (height b)
    ∙ rows-same (λ j. sum_by (λ c. cond (test c) 1 0) (map (λ i. cell (b.lo.x +ℤ pos i) (b.lo.y +ℤ pos j)) (range_with_len 0 (width b)))) (λ j. count_from (λ i. test (cell (b.lo.x +ℤ pos i) (b.lo.y +ℤ pos j))) 0 (width b)) 0 (height b) (λ j _ _. along_row (λ c. cond (test c) 1 0) (λ i. cell (b.lo.x +ℤ pos i) (b.lo.y +ℤ pos j)) 0 (width b))

-- ---- the test of a cell, by its column and row

pub in_range : (lo low high : ℤ) (first last i : ℕ) → pos first ≡ low -ℤ lo → pos last ≡ high -ℤ lo → within low high (lo +ℤ pos i) ≡ (nat_le first i && nat_le i last)
in_range lo low high first last i e f = grind (arith, ints, nat_tests)

place_is : (lo : ℤ) (i : ℕ) → unsigned_abs ((lo +ℤ pos i) -ℤ lo) ≡ i
place_is lo i = ap unsigned_abs (offset lo i)
  where
    offset : (lo : ℤ) (i : ℕ) → ((lo +ℤ pos i) -ℤ lo) ≡ pos i
    offset lo i = omega (arith, ints)

turned : (a b c : Bool) → ((a && b) && c) ≡ (b && (c && a))
turned true true true = refl
turned true true false = refl
turned true false c = refl
turned false true true = refl
turned false true false = refl
turned false false c = refl

cell_test : (b part : Extent) (words : List ℕ) (west south east north i j : ℕ) → IsWindow b part west south east north → (holds part (cell (b.lo.x +ℤ pos i) (b.lo.y +ℤ pos j)) && bit_of (words_for (width b)) words (unsigned_abs ((b.lo.x +ℤ pos i) -ℤ b.lo.x)) (unsigned_abs ((b.lo.y +ℤ pos j) -ℤ b.lo.y))) ≡ ((nat_le south j && nat_le j north) && in_columns (words_for (width b)) words j west east i)
cell_test b part words west south east north i j k =
    ap (λ t. (t && within part.lo.y part.hi.y (b.lo.y +ℤ pos j)) && bit_of (words_for (width b)) words (unsigned_abs ((b.lo.x +ℤ pos i) -ℤ b.lo.x)) (unsigned_abs ((b.lo.y +ℤ pos j) -ℤ b.lo.y))) (in_range b.lo.x part.lo.x part.hi.x west east i k.west_is k.east_is)
    ∙ ap (λ t. ((nat_le west i && nat_le i east) && t) && bit_of (words_for (width b)) words (unsigned_abs ((b.lo.x +ℤ pos i) -ℤ b.lo.x)) (unsigned_abs ((b.lo.y +ℤ pos j) -ℤ b.lo.y))) (in_range b.lo.y part.lo.y part.hi.y south north j k.south_is k.north_is)
    ∙ ap (λ t. ((nat_le west i && nat_le i east) && (nat_le south j && nat_le j north)) && bit_of (words_for (width b)) words t (unsigned_abs ((b.lo.y +ℤ pos j) -ℤ b.lo.y))) (place_is b.lo.x i)
    ∙ ap (λ t. ((nat_le west i && nat_le i east) && (nat_le south j && nat_le j north)) && bit_of (words_for (width b)) words i t) (place_is b.lo.y j)
    ∙ turned (nat_le west i && nat_le i east) (nat_le south j && nat_le j north) (bit_of (words_for (width b)) words i j)

-- ---- what lies beside the part

after_columns : (p : ℕ) (words : List ℕ) (j low high i : ℕ) → high < i → ◌≡◌ {A = ℕ} (cond (in_columns p words j low high i) 1 0) 0
after_columns p words j low high i h =
    let test : nat_le i high ≡ false = not_le i high h in
    rw test (none (bit_of p words i j) (nat_le low i))
  where
    not_le : (a b : ℕ) → b < a → nat_le a b ≡ false
    not_le a b h = grind (arith, nat_tests)

    none : (t s : Bool) → ◌≡◌ {A = ℕ} (cond (t && (s && false)) 1 0) 0
    none true true = refl
    none true false = refl
    none false s = refl

-- all that stands up to the last column
up_to_high : (p : ℕ) (words : List ℕ) (j low high n : ℕ) → high < n → count_from (in_columns p words j low high) 0 n ≡ count_from (in_columns p words j low high) 0 (high + 1)
up_to_high p words j low high n h =
    let f : ℕ → ℕ = λ i. cond (in_columns p words j low high i) 1 0 in
    let parts : high + 1 + (n - (high + 1)) ≡ n = omega arith in
    let none : rows_from f (0 + (high + 1)) (n - (high + 1)) ≡ 0 = rows-none f (0 + (high + 1)) (n - (high + 1)) (λ i above _. after_columns p words j low high i (omega arith)) in
    ap (rows_from f 0) (sym parts) ∙ rows-append f 0 (high + 1) (n - (high + 1)) ∙ ap (λ t. rows_from f 0 (high + 1) + t) none ∙ plus_none (rows_from f 0 (high + 1))
  where
    plus_none : (k : ℕ) → k + 0 ≡ k
    plus_none k = omega arith

row_is : (p : ℕ) (words : List ℕ) (j low high w : ℕ) → high < w → count_from (in_columns p words j low high) 0 w ≡ row_count p words low high j
row_is p words j low high w h = up_to_high p words j low high w h ∙ sym (up_to_high p words j low high (64 * (high / 64 + 1)) (omega arith))

-- a sum over rows of which those before `first` and after `last` give nothing
middle_rows : (f g : ℕ → ℕ) (first last n : ℕ) → first ≤ last → last < n → ((j : ℕ) → j < first → f j ≡ 0) → ((j : ℕ) → last < j → f j ≡ 0) → ((j : ℕ) → first ≤ j → j ≤ last → f j ≡ g j) → rows_from f 0 n ≡ rows_from g first (last + 1 - first)
middle_rows f g first last n order within below above same =
    let whole : first + ((last + 1 - first) + (n - (last + 1))) ≡ n = omega arith in
    let start : 0 + first ≡ first = omega arith in
    let none_low : rows_from f 0 first ≡ 0 = rows-none f 0 first (λ j _ h. below j (omega arith)) in
    let none_high : rows_from f (first + (last + 1 - first)) (n - (last + 1)) ≡ 0 = rows-none f (first + (last + 1 - first)) (n - (last + 1)) (λ j h _. above j (omega arith)) in
    ap (rows_from f 0) (sym whole)
    ∙ rows-append f 0 first ((last + 1 - first) + (n - (last + 1)))
    ∙ ap (λ t. t + rows_from f (0 + first) ((last + 1 - first) + (n - (last + 1)))) none_low
    ∙ ap (λ t. 0 + rows_from f t ((last + 1 - first) + (n - (last + 1)))) start
    ∙ ap (λ t. 0 + t) (rows-append f first (last + 1 - first) (n - (last + 1)) ∙ ap (λ t. rows_from f first (last + 1 - first) + t) none_high)
    ∙ alone (rows_from f first (last + 1 - first))
    ∙ rows-same f g first (last + 1 - first) (λ j low high. same j low (omega arith))
  where
    alone : (k : ℕ) → 0 + (k + 0) ≡ k
    alone k = omega arith

count_if : (t : Bool) (p : ℕ → Bool) (a n : ℕ) → count_from (λ i. t && p i) a n ≡ cond t (count_from p a n) 0
count_if true p a n = refl
count_if false p a n = rows-none (λ i. 0) a n (λ i _ _. refl)

pub part-count : (b part : Extent) (words : List ℕ) (west south east north : ℕ) → IsWindow b part west south east north → rows_from (row_count (words_for (width b)) words west east) south (north + 1 - south) ≡ count_by (λ c. holds part c && bit_of (words_for (width b)) words (column_in b c) (row_in b c)) (cells_of b)
part-count b part words west south east north k =
    sym
    (cells-sum (λ c. holds part c && bit_of (words_for (width b)) words (column_in b c) (row_in b c)) b
    ∙ rows-same (λ j. count_from (λ i. holds part (cell (b.lo.x +ℤ pos i) (b.lo.y +ℤ pos j)) && bit_of (words_for (width b)) words (unsigned_abs ((b.lo.x +ℤ pos i) -ℤ b.lo.x)) (unsigned_abs ((b.lo.y +ℤ pos j) -ℤ b.lo.y))) 0 (width b)) row 0 (height b) (λ j _ _.
    rows-same _ (λ i. cond ((nat_le south j && nat_le j north) && in_columns (words_for (width b)) words j west east i) 1 0) 0 (width b) (λ i _ _. ap (λ t. cond t 1 0) (cell_test b part words west south east north i j k))
    ∙ count_if (nat_le south j && nat_le j north) (in_columns (words_for (width b)) words j west east) 0 (width b)
    ∙ ap (λ t. cond (nat_le south j && nat_le j north) t 0) (row_is (words_for (width b)) words j west east (width b) k.columns))
    ∙ middle_rows row (row_count (words_for (width b)) words west east) south north (height b) k.high k.rows (λ j h. below j h) (λ j h. above j h) (λ j h g. same j h g))
  where
    row : ℕ → ℕ
    row j = cond (nat_le south j && nat_le j north) (row_count (words_for (width b)) words west east j) 0

    not_le : (a b : ℕ) → b < a → nat_le a b ≡ false
    not_le a b h = grind (arith, nat_tests)

    none : (s : Bool) (n : ℕ) → ◌≡◌ {A = ℕ} (cond (s && false) n 0) 0
    none true n = refl
    none false n = refl

    below : (j : ℕ) → j < south → row j ≡ 0
    below j h = ap (λ t. cond (t && nat_le j north) (row_count (words_for (width b)) words west east j) 0) (not_le south j h)

    above : (j : ℕ) → north < j → row j ≡ 0
    above j h = ap (λ t. cond (nat_le south j && t) (row_count (words_for (width b)) words west east j) 0) (not_le j north h) ∙ none (nat_le south j) (row_count (words_for (width b)) words west east j)

    same : (j : ℕ) → south ≤ j → j ≤ north → row j ≡ row_count (words_for (width b)) words west east j
    same j h g =
        ap (λ t. cond (t && nat_le j north) (row_count (words_for (width b)) words west east j) 0) (le-leb south j h)
        ∙ ap (λ t. cond t (row_count (words_for (width b)) words west east j) 0) (le-leb j north g)

pub column_there : (i w : ℕ) → i < w → i / 64 < words_for w
column_there i w h = omega arith

pub window_there : (b part : Extent) (words : List ℕ) (p west south east north : ℕ) → IsWindow b part west south east north → p ≡ words_for (width b) → length words ≡ height b * words_for (width b) → north * p + p ≤ length words
window_there b part words p west south east north k e count =
    let fits : north * p + p ≤ height b * words_for (width b) = row_fits north p (height b) (words_for (width b)) k.rows (omega (arith, e)) in
    subst (λ (n : ℕ). north * p + p ≤ n) (sym count) fits

pub below_side : (z : ℤ) (n : ℕ) → pos n <ℤ z → n < at_least_zero z
below_side (pos m) n h = omega (arith, ints)
below_side (negsuc m) n h = absurd (omega (arith, ints))

-- along one axis
pub side_order : (lo low high : ℤ) (first last : ℕ) → low ≤ℤ high → pos first ≡ low -ℤ lo → pos last ≡ high -ℤ lo → first ≤ last
side_order lo low high first last h p q = omega (arith, ints)

pub side_inside : (lo hi high : ℤ) (last : ℕ) → high ≤ℤ hi → pos last ≡ high -ℤ lo → last < at_least_zero (hi +ℤ pos 1 -ℤ lo)
side_inside lo hi high last h q = below_side (hi +ℤ pos 1 -ℤ lo) last (omega (arith, ints))

-- ---- a part by what a box has in common with another

pub part-common : (a b part : Extent) → part ≡ common a b → IsProper (common a b) → IsPart a part
part-common a b part e p =
    let w = ap (λ (t : Extent). t.lo.x) e in
    let s = ap (λ (t : Extent). t.lo.y) e in
    let x = ap (λ (t : Extent). t.hi.x) e in
    let n = ap (λ (t : Extent). t.hi.y) e in
    record {
      west = omega (arith, ints, clamps, w);
      south = omega (arith, ints, clamps, s);
      east = omega (arith, ints, clamps, x);
      north = omega (arith, ints, clamps, n);
      wide = omega (arith, ints, clamps, w, x, p.wide);
      high = omega (arith, ints, clamps, s, n, p.high);
    }

same_count : (p q : Cell → Bool) (cs : List Cell) → ((c : Cell) → p c ≡ q c) → count_by p cs ≡ count_by q cs
same_count p q cs h = let e : p ≡ q = λ i c. h c i in ap (λ (t : Cell → Bool). count_by t cs) e

none_count : (p : Cell → Bool) (cs : List Cell) → ((c : Cell) → p c ≡ false) → count_by p cs ≡ 0
none_count p [] h = refl
none_count p (c ∷ cs) h = sum_by-cons (λ c. cond (p c) 1 0) c cs ∙ ap (λ t. cond t 1 0 + count_by p cs) (h c) ∙ rest (count_by p cs) (none_count p cs h)
  where
    rest : (n : ℕ) → n ≡ 0 → 0 + n ≡ 0
    rest n e = omega arith

pub meet-count : (a b part : Extent) (words : List ℕ) → ((c : Cell) → holds part c ≡ (holds a c && holds b c)) → count_by (λ c. holds part c && bit_of (words_for (width a)) words (column_in a c) (row_in a c)) (cells_of a) ≡ count_by (λ c. holds b c && (holds a c && bit_of (words_for (width a)) words (column_in a c) (row_in a c))) (cells_of a)
meet-count a b part words h = same_count _ _ (cells_of a) (λ c. ap (λ t. t && bit_of (words_for (width a)) words (column_in a c) (row_in a c)) (h c) ∙ and_turned (holds a c) (holds b c) (bit_of (words_for (width a)) words (column_in a c) (row_in a c)))

pub apart-count : (a b : Extent) (words : List ℕ) → AreDisjoint a b → 0 ≡ count_by (λ c. holds b c && (holds a c && bit_of (words_for (width a)) words (column_in a c) (row_in a c))) (cells_of a)
apart-count a b words h = sym (none_count _ (cells_of a) (λ c. sym (and_turned (holds a c) (holds b c) (bit_of (words_for (width a)) words (column_in a c) (row_in a c))) ∙ and_left _ _ (h c)))
