-- The cells of a box in order: each is in the box, a cell's place among them, and tests of all of them.
use Rattle.std.proofs.Common.{◌≡◌, ℕ, zero, suc, ◌+◌, ◌*◌, ◌<◌, Bool, true, ℤ, pos, negsuc, ◌+ℤ◌, ◌-ℤ◌, List, [], ◌∷◌, ◌++◌, length, map, refl, sym, ap, subst, ◌∙◌, arith, flat_map, add-mul, suc-mul, zero-mul, mul_comm, ◌⊎◌, inl, inr}
use Rattle.std.specs.Prelude.{slice_index}
use Rattle.std.specs.List.{list_any, list_all, range_with_len}
use Rattle.std.proofs.lemmas.Int.{ints}
use Rattle.std.proofs.lemmas.Bool.{and_parts, and_from, or_left, or_right, or_cases}
use Rattle.std.proofs.lemmas.List.{map-append}
use Rattle.amr_box.specs.declared.Cell.{Cell}
use Rattle.amr_box.specs.Cells.{Extent, at_least_zero, cell, cells_of, holds, within, width, height}
use Rattle.amr_box.proofs.CellEquality.{is_cell, cell_itself, cell_same, same_cell}
use Rattle.amr_box.proofs.CellLists.{among_cells_of}
use Rattle.amr_box.proofs.Numbers.{at_least_zero-is}
use Rattle.amr_payload.specs.Tests.{place_in}
use Rattle.amr_payload.proofs.Fields.{Each}

-- ---- each cell

each_among : (P : Cell → Type 0) (cs : List Cell) → ((c : Cell) → list_any (is_cell c) cs ≡ true → P c) → Each P cs
each_among P [] h = tt
each_among P (c ∷ cs) h = (h c (or_left (is_cell c c) (list_any (is_cell c) cs) (cell_itself c)), each_among P cs (λ d among. h d (or_right (is_cell d c) (list_any (is_cell d) cs) among)))

pub each_cell : (P : Cell → Type 0) (b : Extent) → ((c : Cell) → holds b c ≡ true → P c) → Each P (cells_of b)
each_cell P b h = each_among P (cells_of b) (λ c among. h c (sym (among_cells_of b c) ∙ among))

all_from_each : (test : Cell → Bool) (cs : List Cell) → Each (λ c. test c ≡ true) cs → list_all test cs ≡ true
all_from_each test [] h = refl
all_from_each test (c ∷ cs) h = and_from (test c) (list_all test cs) h.0 (all_from_each test cs h.1)

pub all_cells : (test : Cell → Bool) (b : Extent) → ((c : Cell) → holds b c ≡ true → test c ≡ true) → list_all test (cells_of b) ≡ true
all_cells test b h = all_from_each test (cells_of b) (each_cell (λ c. test c ≡ true) b h)

all_among : (test : Cell → Bool) (c : Cell) (cs : List Cell) → list_all test cs ≡ true → list_any (is_cell c) cs ≡ true → test c ≡ true
all_among test c [] all among = absurd (cc)
all_among test c (d ∷ cs) all among =
    let parts = and_parts (test d) (list_all test cs) all in
    choose (or_cases (is_cell c d) (list_any (is_cell c) cs) among) parts.0 (all_among test c cs parts.1)
  where
    choose : (is_cell c d ≡ true) ⊎ (list_any (is_cell c) cs ≡ true) → test d ≡ true → (list_any (is_cell c) cs ≡ true → test c ≡ true) → test c ≡ true
    choose (inl same) one rest = subst (λ (e : Cell). test e ≡ true) (sym (cell_same c d same)) one
    choose (inr more) one rest = rest more

pub any_cell : (test : Cell → Bool) (b : Extent) (c : Cell) → list_all test (cells_of b) ≡ true → holds b c ≡ true → test c ≡ true
any_cell test b c all held = all_among test c (cells_of b) all (among_cells_of b c ∙ held)

-- ---- places

map-map : {A B C : Type 0} (f : B → C) (g : A → B) (xs : List A) → map f (map g xs) ≡ map (λ x. f (g x)) xs
map-map f g [] = refl
map-map f g (x ∷ xs) = ap (λ ys. f (g x) ∷ ys) (map-map f g xs)

at_same : {B : Type 0} (f : ℕ → B) (a b : ℕ) → a ≡ b → f a ≡ f b
at_same f a b same = ap f same

-- two functions of numbers in a row
row_same : (f g : ℕ → ℕ) (a b n : ℕ) → ((i : ℕ) → i < n → f (a + i) ≡ g (b + i)) → map f (range_with_len a n) ≡ map g (range_with_len b n)
row_same f g a b zero h = refl
row_same f g a b (suc n) h =
    let first : f a ≡ g b = at_same f a (a + 0) (omega arith) ∙ h 0 (omega arith) ∙ at_same g (b + 0) b (omega arith) in
    let rest : (i : ℕ) → i < n → f (a + 1 + i) ≡ g (b + 1 + i) = λ i inside. at_same f (a + 1 + i) (a + suc i) (omega arith) ∙ h (suc i) (omega arith) ∙ at_same g (b + suc i) (b + 1 + i) (omega arith) in
    λ j. first j ∷ row_same f g (a + 1) (b + 1) n rest j

rows_joined : (g : ℕ → ℕ) (a m n : ℕ) → map g (range_with_len a m) ++ map g (range_with_len (a + m) n) ≡ map g (range_with_len a (m + n))
rows_joined g a zero n = at_same (λ k. map g (range_with_len k n)) (a + 0) a (omega arith) ∙ at_same (λ k. map g (range_with_len a k)) n (0 + n) (omega arith)
rows_joined g a (suc m) n =
    at_same (λ k. g a ∷ (map g (range_with_len (a + 1) m) ++ map g (range_with_len k n))) (a + suc m) (a + 1 + m) (omega arith)
    ∙ ap (λ (ks : List ℕ). g a ∷ ks) (rows_joined g (a + 1) m n)
    ∙ at_same (λ k. map g (range_with_len a k)) (suc (m + n)) (suc m + n) (omega arith)

rows_in_order : (f : Cell → ℕ) (g : ℕ → ℕ) (lo : Cell) (w a n : ℕ) → ((i j : ℕ) → i < w → f (cell (lo.x +ℤ pos i) (lo.y +ℤ pos j)) ≡ g (j * w + i))
    → map f (flat_map (λ j. map (λ i. cell (lo.x +ℤ pos i) (lo.y +ℤ pos j)) (range_with_len 0 w)) (range_with_len a n)) ≡ map g (range_with_len (a * w) (n * w))
rows_in_order f g lo w a zero h = at_same (λ k. map g (range_with_len (a * w) k)) 0 (0 * w) (omega (arith, zero-mul w))
rows_in_order f g lo w a (suc n) h =
    let row : List Cell = map (λ i. cell (lo.x +ℤ pos i) (lo.y +ℤ pos a)) (range_with_len 0 w) in
    let rest : List Cell = flat_map (λ j. map (λ i. cell (lo.x +ℤ pos i) (lo.y +ℤ pos j)) (range_with_len 0 w)) (range_with_len (a + 1) n) in
    let in_row : (i : ℕ) → i < w → f (cell (lo.x +ℤ pos (0 + i)) (lo.y +ℤ pos a)) ≡ g (a * w + i) = λ i inside. at_same (λ k. f (cell (lo.x +ℤ pos k) (lo.y +ℤ pos a))) (0 + i) i (omega arith) ∙ h i a inside in
    let one : map f row ≡ map g (range_with_len (a * w) w) = map-map f (λ i. cell (lo.x +ℤ pos i) (lo.y +ℤ pos a)) (range_with_len 0 w)
    ∙ row_same (λ i. f (cell (lo.x +ℤ pos i) (lo.y +ℤ pos a))) g 0 (a * w) w in_row in
    let more = rows_in_order f g lo w (a + 1) n h in
    map-append f row rest ∙ (λ k. one k ++ more k)
    ∙ at_same (λ k. map g (range_with_len (a * w) w) ++ map g (range_with_len k (n * w))) ((a + 1) * w) (a * w + w) (omega (arith, add-mul a 1 w))
    ∙ rows_joined g (a * w) w (n * w)
    ∙ at_same (λ k. map g (range_with_len (a * w) k)) (w + n * w) (suc n * w) (omega (arith, suc-mul n w))

-- a function of cells in the order of a box, by their places
pub by_places : (f : Cell → ℕ) (g : ℕ → ℕ) (b : Extent) → ((i j : ℕ) → i < width b → f (cell (b.lo.x +ℤ pos i) (b.lo.y +ℤ pos j)) ≡ g (j * width b + i)) → map f (cells_of b) ≡ map g (range_with_len 0 (height b * width b))
by_places f g b h = rows_in_order f g b.lo (width b) 0 (height b) h ∙ at_same (λ k. map g (range_with_len k (height b * width b))) (0 * width b) 0 (zero-mul (width b))

numbers_in_order : (ms : List ℕ) (a : ℕ) (g : ℕ → ℕ) → ((i : ℕ) → g (a + i) ≡ slice_index ms i) → map g (range_with_len a (length ms)) ≡ ms
numbers_in_order [] a g h = refl
numbers_in_order (m ∷ ms) a g h =
    let first : g a ≡ m = at_same g a (a + 0) (omega arith) ∙ h 0 in
    λ j. first j ∷ numbers_in_order ms (a + 1) g (λ i. at_same g (a + 1 + i) (a + suc i) (omega arith) ∙ h (suc i)) j

gap : (z : ℤ) (n : ℕ) → at_least_zero (z +ℤ pos n -ℤ z) ≡ n
gap z n = at_least_zero-is (z +ℤ pos n -ℤ z) n (omega (arith, ints))

pub place_of : (b : Extent) (i j : ℕ) → place_in b (cell (b.lo.x +ℤ pos i) (b.lo.y +ℤ pos j)) ≡ j * width b + i
place_of b i j = λ k. gap b.lo.y j k * width b + gap b.lo.x i k

-- numbers, one for each cell of a box, looked up by the places of its cells
pub looked_up : (b : Extent) (ms : List ℕ) → length ms ≡ width b * height b → map (λ c. slice_index ms (place_in b c)) (cells_of b) ≡ ms
looked_up b ms count =
    by_places (λ c. slice_index ms (place_in b c)) (λ k. slice_index ms k) b (λ i j inside. at_same (λ k. slice_index ms k) (place_in b (cell (b.lo.x +ℤ pos i) (b.lo.y +ℤ pos j))) (j * width b + i) (place_of b i j))
    ∙ at_same (λ n. map (λ k. slice_index ms k) (range_with_len 0 n)) (height b * width b) (length ms) (mul_comm (height b) (width b) ∙ sym count)
    ∙ numbers_in_order ms 0 (λ k. slice_index ms k) (λ i. at_same (λ k. slice_index ms k) (0 + i) i (omega arith))

-- ---- a cell of a box, by its distances from the low corner

pub record IsCellOf (b : Extent) (c : Cell) : Type 0 where
  pub i : ℕ
  pub j : ℕ
  pub column : i < width b
  pub row : j < height b
  pub is : c ≡ cell (b.lo.x +ℤ pos i) (b.lo.y +ℤ pos j)

record IsPast (lo hi z : ℤ) : Type 0 where
  by : ℕ
  inside : by < at_least_zero (hi +ℤ pos 1 -ℤ lo)
  is : z ≡ lo +ℤ pos by

past : (lo hi z : ℤ) → within lo hi z ≡ true → IsPast lo hi z
past lo hi z h = by_gap (z -ℤ lo) (hi +ℤ pos 1 -ℤ lo) refl refl
  where
    by_gap : (d e : ℤ) → z -ℤ lo ≡ d → hi +ℤ pos 1 -ℤ lo ≡ e → IsPast lo hi z
    by_gap (pos n) (pos m) is size = record { by = n; inside = below (hi +ℤ pos 1 -ℤ lo) n m size (grind (arith, ints)); is = omega (arith, ints) }
      where
        below : (y : ℤ) (n m : ℕ) → y ≡ pos m → n < m → n < at_least_zero y
        below y n m e h = subst (λ (y : ℤ). n < at_least_zero y) (sym e) h
    by_gap (pos n) (negsuc m) is size = absurd (grind (arith, ints))
    by_gap (negsuc n) e is size = absurd (grind (arith, ints))

pub cell_of : (b : Extent) (c : Cell) → holds b c ≡ true → IsCellOf b c
cell_of b c held =
    let parts = and_parts (within b.lo.x b.hi.x c.x) (within b.lo.y b.hi.y c.y) held in
    let x = past b.lo.x b.hi.x c.x parts.0 in
    let y = past b.lo.y b.hi.y c.y parts.1 in
    record { i = x.by; j = y.by; column = x.inside; row = y.inside; is = same_cell x.is y.is }
