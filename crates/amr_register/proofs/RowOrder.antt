-- The order of cells by row, within a row by column.
use Rattle.std.proofs.Common.{◌≡◌, ◌∙◌, ℕ, zero, suc, ◌+◌, ◌⊎◌, inl, inr, ℤ, pos, ◌+ℤ◌, ◌<ℤ◌, List, [], ◌∷◌, ◌++◌, map, refl, sym, ap, subst, int_cmp, arith}
use Rattle.std.proofs.Math.Bool.{and_comm}
use Rattle.std.specs.List.{AllByRecursion, AllPairs, Contains, flat_map, range_with_len}
use Rattle.std.specs.List.Sorted.{IsStrictlySortedBy}
use Rattle.std.specs.Ordering.{MatchOrdering, eq_by_cmp, int_eq, ordering_then}
use Rattle.std.specs.declared.cmp.Ordering.{Ordering}
use Rattle.std.specs.declared.cmp.Ordering.TheVariants.{Equal, Greater, Less}
use Rattle.std.specs.Cmp.{IsTotalOrder, int_cmp_total, int_ranks, on_total, then_total, tied_itself, tied_then}
use Rattle.std.proofs.lemmas.Int.{ints}
use Rattle.std.proofs.lemmas.List.Concat.{flat_map-cons}
use Rattle.std.proofs.lemmas.List.Elements.{All-contains}
use Rattle.std.proofs.lemmas.Map.Keys.{Less-from_sorted, sorted_from_all_adjacent, sorted_tail}
use Rattle.std.proofs.lemmas.Map.Views.{All-after_first}
use Rattle.amr_box.specs.declared.Cell.{Cell}
use Rattle.amr_box.specs.Cells.{Extent, cell, cells_of, height, is_same_cell, width}
use Rattle.amr_register.specs.Entries.{row_cmp}

pub row_cmp_total : IsTotalOrder row_cmp
row_cmp_total = then_total (on_total {K = Cell} (λ c. c.y) {R = int_cmp} int_cmp_total) (on_total {K = Cell} (λ c. c.x) {R = int_cmp} int_cmp_total)

pub row_cmp-itself : (a b : Cell) → a ≡ b → row_cmp a b ≡ Less → ⊥
row_cmp-itself a b e h =
    let equal : row_cmp a a ≡ Equal = tied_itself row_cmp_total a in
    let less : row_cmp a a ≡ Less = subst (λ (c : Cell). row_cmp a c ≡ Less) (sym e) h in
    clash (row_cmp a a) equal less
  where
    clash : (o : Ordering) → o ≡ Equal → o ≡ Less → ⊥
    clash o e f = cc

-- ---- a cell before another

less_number : (a b : ℤ) → a <ℤ b → int_cmp a b ≡ Less
less_number a b h = cases (int_cmp a b) (int_ranks a b)
  where
    cases : (o : Ordering) → MatchOrdering o (a <ℤ b) (a ≡ b) (b <ℤ a) → o ≡ Less
    cases Less m = refl
    cases Equal m = absurd (omega (arith, ints, m))
    cases Greater m = absurd (omega (arith, ints, m))

equal_number : (a : ℤ) → int_cmp a a ≡ Equal
equal_number a = tied_itself int_cmp_total a

pub less_by_row : (a b : Cell) → a.y <ℤ b.y → row_cmp a b ≡ Less
less_by_row a b h = ap (λ (o : Ordering). ordering_then o (int_cmp a.x b.x)) (less_number a.y b.y h)

less_in_row : (x x' y : ℤ) → x <ℤ x' → row_cmp (cell x y) (cell x' y) ≡ Less
less_in_row x x' y h = ap (λ (o : Ordering). ordering_then o (int_cmp x x')) (equal_number y) ∙ less_number x x' h

-- ---- the cells of a box

all_append : (P : Cell → Type 0) (xs ys : List Cell) → AllByRecursion P xs → AllByRecursion P ys → AllByRecursion P (xs ++ ys)
all_append P [] ys h k = k
all_append P (x ∷ xs) ys h k = (h.0, all_append P xs ys h.1 k)

pub sorted_append : (xs ys : List Cell) → IsStrictlySortedBy row_cmp xs → IsStrictlySortedBy row_cmp ys → AllByRecursion (λ x. AllByRecursion (λ y. row_cmp x y ≡ Less) ys) xs → IsStrictlySortedBy row_cmp (xs ++ ys)
unfolding IsStrictlySortedBy
sorted_append [] ys h k b = k
sorted_append (x ∷ xs) ys h k b = (all_append (λ y. row_cmp x y ≡ Less) xs ys h.0 b.0, sorted_append xs ys h.1 k b.1)

-- the cells of a row from column `base + a` on
abbrev row_from : ℤ → ℤ → ℕ → ℕ → List Cell
row_from base y a n = map (λ i. cell (base +ℤ pos i) y) (range_with_len a n)

after_in_row : (base y x : ℤ) (a n : ℕ) → x <ℤ (base +ℤ pos a) → AllByRecursion (λ q. row_cmp (cell x y) q ≡ Less) (row_from base y a n)
after_in_row base y x a zero h = tt
after_in_row base y x a (suc n) h = (less_in_row x (base +ℤ pos a) y h, after_in_row base y x (a + 1) n (omega (arith, ints)))

row_sorted : (base y : ℤ) (a n : ℕ) → IsStrictlySortedBy row_cmp (row_from base y a n)
unfolding IsStrictlySortedBy
row_sorted base y a zero = tt
row_sorted base y a (suc n) = (after_in_row base y (base +ℤ pos a) (a + 1) n (omega (arith, ints)), row_sorted base y (a + 1) n)

-- each cell of these comes after the row of c
after_rows : (base : ℤ) (c : Cell) (y : ℤ) (a n : ℕ) → c.y <ℤ y → AllByRecursion (λ q. row_cmp c q ≡ Less) (row_from base y a n)
after_rows base c y a zero h = tt
after_rows base c y a (suc n) h = (less_by_row c (cell (base +ℤ pos a) y) h, after_rows base c y (a + 1) n h)

-- the rows from row `low + b` on
abbrev rows_from : ℤ → ℕ → ℤ → ℕ → ℕ → List Cell
rows_from base w low b h = flat_map (λ j. row_from base (low +ℤ pos j) 0 w) (range_with_len b h)

before_rows : (base : ℤ) (w : ℕ) (low : ℤ) (c : Cell) (b h : ℕ) → c.y <ℤ (low +ℤ pos b) → AllByRecursion (λ q. row_cmp c q ≡ Less) (rows_from base w low b h)
before_rows base w low c b zero t = tt
before_rows base w low c b (suc h) t =
    rw flat_map-cons
    (all_append (λ q. row_cmp c q ≡ Less) (row_from base (low +ℤ pos b) 0 w) (rows_from base w low (b + 1) h) (after_rows base c (low +ℤ pos b) 0 w t) (before_rows base w low c (b + 1) h (omega (arith, ints))))

row_before_rows : (base : ℤ) (w : ℕ) (low y : ℤ) (b h a n : ℕ) → y <ℤ (low +ℤ pos b) → AllByRecursion (λ c. AllByRecursion (λ q. row_cmp c q ≡ Less) (rows_from base w low b h)) (row_from base y a n)
row_before_rows base w low y b h a zero t = tt
row_before_rows base w low y b h a (suc n) t = (before_rows base w low (cell (base +ℤ pos a) y) b h t, row_before_rows base w low y b h (a + 1) n t)

nothing_sorted : IsStrictlySortedBy row_cmp []
unfolding IsStrictlySortedBy
nothing_sorted = tt

rows_sorted : (base : ℤ) (w : ℕ) (low : ℤ) (b h : ℕ) → IsStrictlySortedBy row_cmp (rows_from base w low b h)
rows_sorted base w low b zero = nothing_sorted
rows_sorted base w low b (suc h) =
    rw flat_map-cons
    (sorted_append (row_from base (low +ℤ pos b) 0 w) (rows_from base w low (b + 1) h) (row_sorted base (low +ℤ pos b) 0 w) (rows_sorted base w low (b + 1) h) (row_before_rows base w low (low +ℤ pos b) (b + 1) h 0 w (omega (arith, ints))))

pub cells_sorted : (b : Extent) → IsStrictlySortedBy row_cmp (cells_of b)
cells_sorted b = rows_sorted b.lo.x (width b) b.lo.y 0 (height b)

-- ---- two lists in order with the same cells are one

among_cons : (x c : Cell) (xs : List Cell) → Contains (x ∷ xs) c → (x ≡ c) ⊎ Contains xs c
among_cons x c xs (zero, lt, e) = inl e
among_cons x c xs (suc k, lt, e) = inr (k, omega arith, e)

pub later : (x c : Cell) (xs : List Cell) → IsStrictlySortedBy row_cmp (x ∷ xs) → Contains xs c → row_cmp x c ≡ Less
later x c xs h m = All-contains (λ q. row_cmp x q ≡ Less) xs c (All-after_first row_cmp x xs h) m

two_ways : (a b : Cell) → row_cmp a b ≡ Less → row_cmp b a ≡ Less → ⊥
two_ways a b h k = row_cmp-itself a a refl (row_cmp_total.trans a b a h k)

pub nothing_among : (c : Cell) → Contains [] c → ⊥
nothing_among c (k, lt, e) = omega arith

pub same_sorted : (xs ys : List Cell) → IsStrictlySortedBy row_cmp xs → IsStrictlySortedBy row_cmp ys → ((c : Cell) → Contains xs c → Contains ys c) → ((c : Cell) → Contains ys c → Contains xs c) → xs ≡ ys
same_sorted [] [] s t f g = refl
same_sorted [] (y ∷ ys) s t f g = absurd (nothing_among y (g y (0, omega arith, refl)))
same_sorted (x ∷ xs) [] s t f g = absurd (nothing_among x (f x (0, omega arith, refl)))
same_sorted (x ∷ xs) (y ∷ ys) s t f g = λ i. heads i ∷ same_sorted xs ys (sorted_tail row_cmp x xs s) (sorted_tail row_cmp y ys t) over back i
  where
    first : (y ≡ x) ⊎ Contains ys x → (x ≡ y) ⊎ Contains xs y → x ≡ y
    first (inl e) m = sym e
    first (inr h) (inl e) = e
    first (inr h) (inr k) = absurd (two_ways x y (later x y xs s k) (later y x ys t h))

    heads : x ≡ y
    heads = first (among_cons y x ys (f x (0, omega arith, refl))) (among_cons x y xs (g y (0, omega arith, refl)))

    step : (c : Cell) → row_cmp x c ≡ Less → (y ≡ c) ⊎ Contains ys c → Contains ys c
    step c h (inl e) = absurd (row_cmp-itself x c (heads ∙ e) h)
    step c h (inr k) = k

    step_back : (c : Cell) → row_cmp y c ≡ Less → (x ≡ c) ⊎ Contains xs c → Contains xs c
    step_back c h (inl e) = absurd (row_cmp-itself y c (sym heads ∙ e) h)
    step_back c h (inr k) = k

    among_more : (z c : Cell) (zs : List Cell) → Contains zs c → Contains (z ∷ zs) c
    among_more z c zs (k, lt, e) = (suc k, omega arith, e)

    over : (c : Cell) → Contains xs c → Contains ys c
    over c m = step c (later x c xs s m) (among_cons y c ys (f c (among_more x c xs m)))

    back : (c : Cell) → Contains ys c → Contains xs c
    back c m = step_back c (later y c ys t m) (among_cons x c xs (g c (among_more y c ys m)))

-- ---- sorted, and each once

-- cells that the order doesn't tell apart are one

pub ties : (a b : Cell) → is_same_cell a b ≡ eq_by_cmp row_cmp a b
ties a b = and_comm (int_eq a.x b.x) (int_eq a.y b.y) ∙ tied_then (int_cmp a.y b.y) (int_cmp a.x b.x)

pub rising : (cs : List Cell) → IsStrictlySortedBy row_cmp cs → AllPairs (λ a b. row_cmp a b ≡ Less) cs
rising cs h i j d lt l = Less-from_sorted row_cmp cs i j d h lt l

pub sorted_from_rising : (cs : List Cell) → AllPairs (λ a b. row_cmp a b ≡ Less) cs → IsStrictlySortedBy row_cmp cs
sorted_from_rising cs h = sorted_from_all_adjacent row_cmp_total cs (cell (pos 0) (pos 0)) (λ k lt. h k (k + 1) (cell (pos 0) (pos 0)) (omega arith) lt)
