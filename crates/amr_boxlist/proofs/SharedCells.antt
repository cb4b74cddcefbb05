-- The cells that a box shares with boxes apart, counted over the box: all its cells exactly where it is covered.
use Rattle.std.proofs.Common.{◌≡◌, ℕ, zero, suc, ◌+◌, ◌*◌, ◌<◌, ◌≤◌, Bool, true, false, ◌&&◌, cond, ℤ, pos, negsuc, ◌+ℤ◌, ◌-ℤ◌, ◌≤ℤ◌, ◌<ℤ◌, refl, sym, ap, ◌∙◌, arith, List, [], ◌∷◌, ◌⊎◌, inl, inr, take, length, get_or, nat_eq}
use Rattle.std.specs.Prelude.{int_le, IsTrue, ◌↔◌}
use Rattle.std.specs.Int.{int_max, int_min}
use Rattle.std.specs.List.{sum_by}
use Rattle.std.proofs.lemmas.Int.{ints, clamps}
use Rattle.std.proofs.lemmas.Bool.{and_parts}
use Rattle.std.proofs.lemmas.Bool.Decides.{nat_tests}
use Rattle.std.proofs.lemmas.List.Sums.{sum_by-cons, sum_by-take-le, sum_by_more}
use Rattle.std.proofs.Math.Nat.{mul-le-mul_left}
use Rattle.amr_box.specs.declared.Cell.{Cell}
use Rattle.amr_box.specs.Cells.{Extent, IsNear, IsProper, at_least_zero, cell, common, height, holds, in_boxes, width, within}
use Rattle.amr_box.proofs.Numbers.{at_least_zero-same, le_from}
use Rattle.amr_box.proofs.CellLists.{in_range}
use Rattle.amr_boxlist.specs.Lists.{AreApart, holders}
use Rattle.amr_boxlist.specs.Shared.{shared}
use Rattle.amr_boxlist.proofs.Sets.{in_boxes-holders, in_boxes-some, one_if}

-- ---- numbers

times-none : (m : ℕ) → 0 ≡ m * 0
times-none m = omega arith

none-times : (m : ℕ) → 0 ≡ 0 * m
none-times m = omega arith

times-suc : (m n : ℕ) → m * suc n ≡ m + m * n
times-suc m n = grind arith

more : (x y m n : ℕ) → x ≤ m → y ≤ m * n → x + y ≤ m * suc n
more x y m n h k = omega (arith, times-suc m n)

nat_cases : (a i : ℕ) → a ≤ i → (i ≡ a) ⊎ (a + 1 ≤ i)
nat_cases zero zero h = inl refl
nat_cases zero (suc i) h = inr (omega arith)
nat_cases (suc a) zero h = absurd (omega arith)
nat_cases (suc a) (suc i) h = step (nat_cases a i (omega arith))
  where
    step : (i ≡ a) ⊎ (a + 1 ≤ i) → (suc i ≡ suc a) ⊎ (suc a + 1 ≤ suc i)
    step (inl e) = inl (ap suc e)
    step (inr k) = inr (omega arith)

-- ---- sums over the n numbers from a on

abbrev pub total : (ℕ → ℕ) → ℕ → ℕ → ℕ
total f a zero = 0
total f a (suc n) = f a + total f (a + 1) n

total-none : (a n : ℕ) → total (λ i. 0) a n ≡ 0
total-none a zero = refl
total-none a (suc n) = ap (λ t. 0 + t) (total-none (a + 1) n)

total-plus : (f g : ℕ → ℕ) (a n : ℕ) → total (λ i. f i + g i) a n ≡ total f a n + total g a n
total-plus f g a zero = refl
total-plus f g a (suc n) = ap (λ t. f a + g a + t) (total-plus f g (a + 1) n) ∙ turned (f a) (g a) (total f (a + 1) n) (total g (a + 1) n)
  where
    turned : (p q r s : ℕ) → p + q + (r + s) ≡ (p + r) + (q + s)
    turned p q r s = omega arith

total-same : (f g : ℕ → ℕ) (a n : ℕ) → ((i : ℕ) → f i ≡ g i) → total f a n ≡ total g a n
total-same f g a n h = let e : f ≡ g = λ k i. h i k in ap (λ (t : ℕ → ℕ). total t a n) e

total-most : (f : ℕ → ℕ) (m a n : ℕ) → ((i : ℕ) → f i ≤ m) → total f a n ≤ m * n
total-most f m a zero h = omega arith
total-most f m a (suc n) h = more (f a) (total f (a + 1) n) m n (h a) (total-most f m (a + 1) n h)

-- a total that is as large as can be has nothing less
total-full : (f : ℕ → ℕ) (m a n : ℕ) → ((i : ℕ) → f i ≤ m) → total f a n ≡ m * n → (i : ℕ) → a ≤ i → i < a + n → f i ≡ m
total-full f m a zero h e i low high = absurd (omega arith)
total-full f m a (suc n) h e i low high = step (nat_cases a i low) (λ k. total-full f m (a + 1) n h rest i k (omega arith))
  where
    first : f a ≡ m
    first = omega (arith, h a, total-most f m (a + 1) n h, times-suc m n, e)

    rest : total f (a + 1) n ≡ m * n
    rest = omega (arith, first, times-suc m n, e)

    step : (i ≡ a) ⊎ (a + 1 ≤ i) → (a + 1 ≤ i → f i ≡ m) → f i ≡ m
    step (inl k) later = ap f k ∙ first
    step (inr k) later = later k

total-all : (f : ℕ → ℕ) (m a n : ℕ) → ((i : ℕ) → a ≤ i → i < a + n → f i ≡ m) → total f a n ≡ m * n
total-all f m a zero h = times-none m
total-all f m a (suc n) h =
    let first : f a ≡ m = h a (omega arith) (omega arith) in
    let rest : total f (a + 1) n ≡ m * n = total-all f m (a + 1) n (λ i low high. h i (omega arith) (omega arith)) in
    omega (arith, first, rest, times-suc m n)

-- ---- along one axis

-- how far the n coordinates from place a after lo on overlap those from low to high: 0 or less where they do not
abbrev overlap : ℤ → ℤ → ℤ → ℕ → ℕ → ℤ
overlap low high lo a n = int_min high (lo +ℤ pos (a + n) -ℤ pos 1) +ℤ pos 1 -ℤ int_max low (lo +ℤ pos a)

abbrev shared_side : ℤ → ℤ → ℤ → ℕ → ℕ → ℕ
shared_side low high lo a n = at_least_zero (overlap low high lo a n)

up_to : (z : ℤ) → ((pos 0 ≤ℤ z) × (z ≡ pos (at_least_zero z))) ⊎ ((z <ℤ pos 0) × (at_least_zero z ≡ 0))
up_to (pos n) = inl (omega (arith, ints), refl)
up_to (negsuc n) = inr (omega (arith, ints), refl)

zero_if : (z : ℤ) → z ≤ℤ pos 0 → at_least_zero z ≡ 0
zero_if (pos n) h = omega (arith, ints)
zero_if (negsuc n) h = refl

suc_if : (y z : ℤ) → pos 0 ≤ℤ y → z ≡ y +ℤ pos 1 → 1 + at_least_zero y ≡ at_least_zero z
suc_if (pos n) (pos m) h e = omega (arith, ints)
suc_if (pos n) (negsuc m) h e = absurd (omega (arith, ints))
suc_if (negsuc n) z h e = absurd (omega (arith, ints))

side_more : (low high lo : ℤ) (a n : ℕ) → one_if (within low high (lo +ℤ pos a)) + shared_side low high lo (a + 1) n ≡ shared_side low high lo a (suc n)
side_more low high lo a n = step (int_le low (lo +ℤ pos a)) (int_le (lo +ℤ pos a) high) refl refl
  where
    alone : (k : ℕ) → 0 + k ≡ k
    alone k = omega arith

    step : (s t : Bool) → int_le low (lo +ℤ pos a) ≡ s → int_le (lo +ℤ pos a) high ≡ t → one_if (within low high (lo +ℤ pos a)) + shared_side low high lo (a + 1) n ≡ shared_side low high lo a (suc n)
    step true true e f =
        let below : low ≤ℤ (lo +ℤ pos a) = grind (arith, ints) in
        let above : (lo +ℤ pos a) ≤ℤ high = grind (arith, ints) in
        let one : one_if (within low high (lo +ℤ pos a)) ≡ 1 = rw (e, f) refl in
        ap (λ t. t + shared_side low high lo (a + 1) n) one ∙ suc_if (overlap low high lo (a + 1) n) (overlap low high lo a (suc n)) (omega (arith, ints, clamps)) (omega (arith, ints, clamps))
    step false t e f =
        let below : (lo +ℤ pos a) <ℤ low = grind (arith, ints) in
        let none : one_if (within low high (lo +ℤ pos a)) ≡ 0 = rw e refl in
        let same : overlap low high lo (a + 1) n ≡ overlap low high lo a (suc n) = omega (arith, ints, clamps) in
        ap (λ t. t + shared_side low high lo (a + 1) n) none ∙ ap (λ (t : ℤ). 0 + at_least_zero t) same ∙ alone _
    step true false e f =
        let above : high <ℤ (lo +ℤ pos a) = grind (arith, ints) in
        let none : one_if (within low high (lo +ℤ pos a)) ≡ 0 = rw (e, f) refl in
        let after : shared_side low high lo (a + 1) n ≡ 0 = zero_if (overlap low high lo (a + 1) n) (omega (arith, ints, clamps)) in
        let all : shared_side low high lo a (suc n) ≡ 0 = zero_if (overlap low high lo a (suc n)) (omega (arith, ints, clamps)) in
        omega (arith, none, after, all)

along_side : (low high lo : ℤ) (a n : ℕ) → total (λ i. one_if (within low high (lo +ℤ pos i))) a n ≡ shared_side low high lo a n
along_side low high lo a zero = sym (zero_if (overlap low high lo a 0) (omega (arith, ints, clamps)))
along_side low high lo a (suc n) = ap (λ t. one_if (within low high (lo +ℤ pos a)) + t) (along_side low high lo (a + 1) n) ∙ side_more low high lo a n

whole_side : (low high lo hi : ℤ) → lo ≤ℤ hi → total (λ i. one_if (within low high (lo +ℤ pos i))) 0 (at_least_zero (hi +ℤ pos 1 -ℤ lo)) ≡ at_least_zero (int_min high hi +ℤ pos 1 -ℤ int_max low lo)
whole_side low high lo hi order =
    along_side low high lo 0 n
    ∙ ap at_least_zero (ends n (at_least_zero-same (hi +ℤ pos 1 -ℤ lo) (omega (arith, ints))))
  where
    n : ℕ
    n = at_least_zero (hi +ℤ pos 1 -ℤ lo)

    ends : (n : ℕ) → pos n ≡ hi +ℤ pos 1 -ℤ lo → (int_min high (lo +ℤ pos (0 + n) -ℤ pos 1) +ℤ pos 1 -ℤ int_max low (lo +ℤ pos 0)) ≡ (int_min high hi +ℤ pos 1 -ℤ int_max low lo)
    ends n e = omega (arith, ints, clamps, e)

-- ---- over the cells of a box

-- the sum of a number for each cell of a box, row by row
abbrev pub over_cells : Extent → (Cell → ℕ) → ℕ
over_cells b f = total (λ j. total (λ i. f (cell (b.lo.x +ℤ pos i) (b.lo.y +ℤ pos j))) 0 (width b)) 0 (height b)

row_test : (p : ℕ → Bool) (t : Bool) (a n : ℕ) → total (λ i. one_if (p i && t)) a n ≡ cond t (total (λ i. one_if (p i)) a n) 0
row_test p true a n = total-same (λ i. one_if (p i && true)) (λ i. one_if (p i)) a n (λ i. and_true (p i))
  where
    and_true : (s : Bool) → one_if (s && true) ≡ one_if s
    and_true true = refl
    and_true false = refl
row_test p false a n = total-same (λ i. one_if (p i && false)) (λ i. 0) a n (λ i. and_false (p i)) ∙ total-none a n
  where
    and_false : (s : Bool) → one_if (s && false) ≡ 0
    and_false true = refl
    and_false false = refl

rows_test : (q : ℕ → Bool) (k a n : ℕ) → total (λ j. cond (q j) k 0) a n ≡ k * total (λ j. one_if (q j)) a n
rows_test q k a zero = times-none k
rows_test q k a (suc n) = ap (λ t. cond (q a) k 0 + t) (rows_test q k (a + 1) n) ∙ step (q a) (total (λ j. one_if (q j)) (a + 1) n)
  where
    step : (t : Bool) (m : ℕ) → cond t k 0 + k * m ≡ k * (one_if t + m)
    step true m = grind arith
    step false m = grind arith

-- the cells of b that are in a, counted, are the columns by the rows of what is in both
one_box : (a b : Extent) → IsProper b → over_cells b (λ c. one_if (holds a c)) ≡ shared b a
one_box a b p =
    total-same _ _ 0 (height b) (λ j. row_test (λ i. within a.lo.x a.hi.x (b.lo.x +ℤ pos i)) (within a.lo.y a.hi.y (b.lo.y +ℤ pos j)) 0 (width b) ∙ ap (λ (k : ℕ). cond (within a.lo.y a.hi.y (b.lo.y +ℤ pos j)) k 0) (whole_side a.lo.x a.hi.x b.lo.x b.hi.x p.wide))
    ∙ rows_test (λ j. within a.lo.y a.hi.y (b.lo.y +ℤ pos j)) (width (common a b)) 0 (height b)
    ∙ ap (λ (k : ℕ). width (common a b) * k) (whole_side a.lo.y a.hi.y b.lo.y b.hi.y p.high)

over_cells-plus : (b : Extent) (f g : Cell → ℕ) → over_cells b (λ c. f c + g c) ≡ over_cells b f + over_cells b g
over_cells-plus b f g =
    total-same _ _ 0 (height b) (λ j. total-plus (λ i. f (cell (b.lo.x +ℤ pos i) (b.lo.y +ℤ pos j))) (λ i. g (cell (b.lo.x +ℤ pos i) (b.lo.y +ℤ pos j))) 0 (width b))
    ∙ total-plus (λ j. total (λ i. f (cell (b.lo.x +ℤ pos i) (b.lo.y +ℤ pos j))) 0 (width b)) (λ j. total (λ i. g (cell (b.lo.x +ℤ pos i) (b.lo.y +ℤ pos j))) 0 (width b)) 0 (height b)

over_cells-none : (b : Extent) → over_cells b (λ c. 0) ≡ 0
over_cells-none b = total-same _ _ 0 (height b) (λ j. total-none 0 (width b)) ∙ total-none 0 (height b)

-- so what a box shares with each of the boxes adds up to the number of boxes for each of its cells
pub shared-sum : (bs : List Extent) (b : Extent) → IsProper b → sum_by (shared b) bs ≡ over_cells b (holders bs)
shared-sum [] b p = sym (over_cells-none b)
shared-sum (a ∷ bs) b p =
    sum_by-cons (shared b) a bs
    ∙ ap (λ (k : ℕ). shared b a + k) (shared-sum bs b p)
    ∙ ap (λ (k : ℕ). k + over_cells b (holders bs)) (sym (one_box a b p))
    ∙ sym (over_cells-plus b (λ c. one_if (holds a c)) (holders bs))

row_most : (b : Extent) (f : Cell → ℕ) → ((c : Cell) → f c ≤ 1) → (j : ℕ) → total (λ i. f (cell (b.lo.x +ℤ pos i) (b.lo.y +ℤ pos j))) 0 (width b) ≤ width b
row_most b f h j = omega (arith, total-most (λ i. f (cell (b.lo.x +ℤ pos i) (b.lo.y +ℤ pos j))) 1 0 (width b) (λ i. h _))

pub shared-most : (bs : List Extent) (b : Extent) → IsProper b → AreApart bs → sum_by (shared b) bs ≤ width b * height b
shared-most bs b p h = omega (arith, shared-sum bs b p, total-most (λ j. total (λ i. holders bs (cell (b.lo.x +ℤ pos i) (b.lo.y +ℤ pos j))) 0 (width b)) (width b) 0 (height b) (λ j. row_most b (holders bs) h j))

-- ---- a cell of a box, by its column and row

offset_in : (lo hi z : ℤ) → within lo hi z ≡ true → (i : ℕ) × (z ≡ lo +ℤ pos i) × (i < at_least_zero (hi +ℤ pos 1 -ℤ lo))
offset_in lo hi z h = by_offset (z -ℤ lo) refl
  where
    low : lo ≤ℤ z
    low = grind (arith, ints)

    high : z ≤ℤ hi
    high = grind (arith, ints)

    below : (i : ℕ) (w : ℤ) → pos i <ℤ w → i < at_least_zero w
    below i (pos n) k = omega (arith, ints)
    below i (negsuc n) k = absurd (omega (arith, ints))

    by_offset : (w : ℤ) → z -ℤ lo ≡ w → (i : ℕ) × (z ≡ lo +ℤ pos i) × (i < at_least_zero (hi +ℤ pos 1 -ℤ lo))
    by_offset (pos i) e = (i, omega (arith, ints, e), below i (hi +ℤ pos 1 -ℤ lo) (omega (arith, ints, e, high)))
    by_offset (negsuc i) e = absurd (omega (arith, ints, e, low))

pub all-covered : (bs : List Extent) (b : Extent) → IsProper b → AreApart bs → sum_by (shared b) bs ≡ width b * height b → (c : Cell) → holds b c ≡ true → in_boxes bs c ≡ true
all-covered bs b p h e c inside = step (in_boxes bs c) refl
  where
    tests : (within b.lo.x b.hi.x c.x ≡ true) × (within b.lo.y b.hi.y c.y ≡ true)
    tests = and_parts _ _ inside

    full : (i j : ℕ) → i < width b → j < height b → holders bs (cell (b.lo.x +ℤ pos i) (b.lo.y +ℤ pos j)) ≡ 1
    full i j k l =
        let row : total (λ i. holders bs (cell (b.lo.x +ℤ pos i) (b.lo.y +ℤ pos j))) 0 (width b) ≡ width b =
        total-full (λ j. total (λ i. holders bs (cell (b.lo.x +ℤ pos i) (b.lo.y +ℤ pos j))) 0 (width b)) (width b) 0 (height b) (row_most b (holders bs) h) (sym (shared-sum bs b p) ∙ e) j (omega arith) (omega arith) in
        total-full (λ i. holders bs (cell (b.lo.x +ℤ pos i) (b.lo.y +ℤ pos j))) 1 0 (width b) (λ i. h _) (row ∙ one_times (width b)) i (omega arith) (omega arith)
      where
        one_times : (n : ℕ) → n ≡ 1 * n
        one_times n = omega arith

    one : holders bs c ≡ 1
    one =
        let u = offset_in b.lo.x b.hi.x c.x tests.0 in
        let v = offset_in b.lo.y b.hi.y c.y tests.1 in
        let same : c ≡ cell (b.lo.x +ℤ pos u.0) (b.lo.y +ℤ pos v.0) = λ k. record { x = u.1 k; y = v.1 k } in
        ap (holders bs) same ∙ full u.0 v.0 u.2 v.2

    step : (t : Bool) → in_boxes bs c ≡ t → in_boxes bs c ≡ true
    step true f = f
    step false f = absurd (omega (arith, one, in_boxes-holders bs c f))

pub covered-all : (bs : List Extent) (b : Extent) → IsProper b → AreApart bs → ((c : Cell) → holds b c ≡ true → in_boxes bs c ≡ true) → sum_by (shared b) bs ≡ width b * height b
covered-all bs b p h inside =
    shared-sum bs b p
    ∙ total-all (λ j. total (λ i. holders bs (cell (b.lo.x +ℤ pos i) (b.lo.y +ℤ pos j))) 0 (width b)) (width b) 0 (height b) (λ j _ l.
    total-all (λ i. holders bs (cell (b.lo.x +ℤ pos i) (b.lo.y +ℤ pos j))) 1 0 (width b) (λ i _ k. one i j k l) ∙ times_one (width b))
  where
    times_one : (n : ℕ) → 1 * n ≡ n
    times_one n = omega arith

    one : (i j : ℕ) → i < 0 + width b → j < 0 + height b → holders bs (cell (b.lo.x +ℤ pos i) (b.lo.y +ℤ pos j)) ≡ 1
    one i j k l =
        let there : holds b (cell (b.lo.x +ℤ pos i) (b.lo.y +ℤ pos j)) ≡ true = rw (in_range b.lo.x b.hi.x i (omega arith), in_range b.lo.y b.hi.y j (omega arith)) refl in
        omega (arith, h (cell (b.lo.x +ℤ pos i) (b.lo.y +ℤ pos j)), in_boxes-some bs (cell (b.lo.x +ℤ pos i) (b.lo.y +ℤ pos j)) (inside (cell (b.lo.x +ℤ pos i) (b.lo.y +ℤ pos j)) there))

-- ---- what the code asks

-- what is in a box that is near is near
pub near_common : (a b m : Extent) → m ≡ common a b → IsProper (common a b) → IsNear b → IsNear m
near_common a b m e p k =
    let w : m.lo.x ≡ int_max a.lo.x b.lo.x = ap (λ (t : Extent). t.lo.x) e in
    let s : m.lo.y ≡ int_max a.lo.y b.lo.y = ap (λ (t : Extent). t.lo.y) e in
    let x : m.hi.x ≡ int_min a.hi.x b.hi.x = ap (λ (t : Extent). t.hi.x) e in
    let n : m.hi.y ≡ int_min a.hi.y b.hi.y = ap (λ (t : Extent). t.hi.y) e in
    record {
      west = omega (arith, ints, clamps, w, k.west);
      east = omega (arith, ints, clamps, x, k.east);
      south = omega (arith, ints, clamps, s, k.south);
      north = omega (arith, ints, clamps, n, k.north);
      wide = omega (arith, ints, w, x, p.wide);
      high = omega (arith, ints, s, n, p.high);
    }

no_side : (low high : ℤ) → int_le low high ≡ false → at_least_zero (high +ℤ pos 1 -ℤ low) ≡ 0
no_side low high e = let h : high <ℤ low = grind (arith, ints) in zero_if (high +ℤ pos 1 -ℤ low) (omega (arith, ints, h))

pub none_shared : (a b : Extent) → (IsProper (common a b) → ⊥) → 0 ≡ shared b a
none_shared a b n = step (int_le (common a b).lo.x (common a b).hi.x) (int_le (common a b).lo.y (common a b).hi.y) refl refl
  where
    step : (s t : Bool) → int_le (common a b).lo.x (common a b).hi.x ≡ s → int_le (common a b).lo.y (common a b).hi.y ≡ t → 0 ≡ shared b a
    step true true e f = absurd (n (record { wide = le_from _ _ e; high = le_from _ _ f }))
    step false t e f = none-times (height (common a b)) ∙ ap (λ (k : ℕ). k * height (common a b)) (sym (no_side (common a b).lo.x (common a b).hi.x e))
    step true false e f = times-none (width (common a b)) ∙ ap (λ (k : ℕ). width (common a b) * k) (sym (no_side (common a b).lo.y (common a b).hi.y f))

side_small : (low high : ℤ) → negsuc 16777216 <ℤ low → high <ℤ pos 16777217 → at_least_zero (high +ℤ pos 1 -ℤ low) ≤ 33554433
side_small low high h k = step (high +ℤ pos 1 -ℤ low) (omega (arith, ints, h, k))
  where
    step : (z : ℤ) → z ≤ℤ pos 33554433 → at_least_zero z ≤ 33554433
    step (pos n) e = omega (arith, ints)
    step (negsuc n) e = omega arith

pub area_small : (b : Extent) → IsNear b → width b * height b ≤ 1125899973951489
area_small b k = omega (arith, mul-le-mul_left (width b) (side_small b.lo.y b.hi.y k.south k.north), side_small b.lo.x b.hi.x k.west k.east)

pub proper : (b : Extent) → IsNear b → IsProper b
proper b k = record { wide = k.wide; high = k.high }

-- a sum up to a box of the list is small
pub sum_small : (bs : List Extent) (b d : Extent) (i : ℕ) → AreApart bs → IsNear b → i < length bs → sum_by (shared b) (take i bs) + shared b (get_or bs i d) ≤ 1125899973951489
sum_small bs b d i h k l =
    omega (arith, sum_by_more (shared b) bs i d l, sum_by-take-le (shared b) bs (i + 1), shared-most bs b (proper b k) h, area_small b k)

nat_eq-is : (m n : ℕ) → nat_eq m n ≡ true → m ≡ n
nat_eq-is m n e = grind (arith, nat_tests)

is-nat_eq : (m n : ℕ) → m ≡ n → nat_eq m n ≡ true
is-nat_eq m n e = grind (arith, nat_tests)

pub covers_is : (bs : List Extent) (b : Extent) (count area : ℕ) → IsNear b → AreApart bs → count ≡ sum_by (shared b) bs → area ≡ width b * height b → IsTrue (nat_eq count area) ↔ ((c : Cell) → IsTrue (holds b c) → IsTrue (in_boxes bs c))
covers_is bs b count area k h e f =
    (λ t. all-covered bs b (proper b k) h (sym e ∙ nat_eq-is count area t ∙ f), λ inside. is-nat_eq count area (e ∙ covered-all bs b (proper b k) h inside ∙ sym f))
