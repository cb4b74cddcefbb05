-- The list of a box's cells holds exactly the cells of the box; a cell of a box that passes a test.
use Rattle.std.proofs.Common.{◌≡◌, ℕ, zero, suc, ◌+◌, Bool, true, false, ◌&&◌, ◌||◌, ◌⊎◌, inl, inr, ℤ, pos, negsuc, ◌+ℤ◌, ◌-ℤ◌, ◌<ℤ◌, refl, sym, ap, subst, ◌∙◌, arith, List, [], ◌∷◌, map, ◌<◌, ◌≤◌, ◌≤ℤ◌}
use Rattle.std.proofs.Math.Bool.{or-false}
use Rattle.std.specs.Prelude.{int_le, int_lt}
use Rattle.std.specs.Ordering.{int_eq, eq_by_cmp}
use Rattle.std.specs.List.{range_with_len, flat_map, list_any}
use Rattle.std.proofs.lemmas.Int.{ints}
use Rattle.std.proofs.lemmas.List.Folds.{list_any-append}
use Rattle.std.proofs.lemmas.List.Concat.{flat_map-cons}
use Rattle.amr_box.specs.declared.Cell.{Cell}
use Rattle.amr_box.specs.Cells.{Extent, at_least_zero, cell, cell_cmp, cells_of, holds, within, width, height}
use Rattle.std.proofs.lemmas.Bool.{or_left, or_right}
use Rattle.amr_box.proofs.CellEquality.{by_coordinates, cell_itself, cell_same, is_cell}
use Rattle.amr_box.proofs.Tests.{and_shared}

pub int_eq-itself : (a b : ℤ) → a ≡ b → int_eq a b ≡ true
int_eq-itself a b e = grind (arith, ints)

pub int_eq-apart : (a b : ℤ) → (a ≡ b → ⊥) → int_eq a b ≡ false
int_eq-apart a b n = grind (arith, ints)

any_in_range : (lo z : ℤ) (a n : ℕ) → list_any (λ i. int_eq z (lo +ℤ pos i)) (range_with_len a n) ≡ (int_le (lo +ℤ pos a) z && int_lt z (lo +ℤ pos (a + n)))
any_in_range lo z a zero = grind (arith, ints)
any_in_range lo z a (suc n) = grind (arith, ints, any_in_range lo z (a + 1) n)

-- ---- any element of a list of lists

list_any-map : {A B : Type 0} (p : B → Bool) (f : A → B) (xs : List A) → list_any p (map f xs) ≡ list_any (λ x. p (f x)) xs
list_any-map p f [] = refl
list_any-map p f (x ∷ xs) = ap (λ b. p (f x) || b) (list_any-map p f xs)

list_any-flat_map : {A B : Type 0} (p : B → Bool) (f : A → List B) (xs : List A) → list_any p (flat_map f xs) ≡ list_any (λ x. list_any p (f x)) xs
list_any-flat_map p f [] = refl
list_any-flat_map p f (x ∷ xs) = rw flat_map-cons (list_any-append p (f x) (flat_map f xs) ∙ ap (λ b. list_any p (f x) || b) (list_any-flat_map p f xs))

or-and : (a b c : Bool) → ((a && c) || (b && c)) ≡ ((a || b) && c)
or-and true true true = refl
or-and true true false = refl
or-and true false c = or-false c
or-and false true c = refl
or-and false false c = refl

list_any-and : {A : Type 0} (p : A → Bool) (c : Bool) (xs : List A) → list_any (λ x. p x && c) xs ≡ (list_any p xs && c)
list_any-and p c [] = refl
list_any-and p c (x ∷ xs) = ap (λ b. (p x && c) || b) (list_any-and p c xs) ∙ or-and (p x) (list_any p xs) c

list_any-and_left : {A : Type 0} (p : A → Bool) (c : Bool) (xs : List A) → list_any (λ x. c && p x) xs ≡ (c && list_any p xs)
list_any-and_left p true [] = refl
list_any-and_left p false [] = refl
list_any-and_left p c (x ∷ xs) = ap (λ b. (c && p x) || b) (list_any-and_left p c xs) ∙ and_shared c (p x) (list_any p xs)

list_any-same : {A : Type 0} (p q : A → Bool) (xs : List A) → ((x : A) → p x ≡ q x) → list_any p xs ≡ list_any q xs
list_any-same p q [] h = refl
list_any-same p q (x ∷ xs) h = ap (λ b. b || list_any p xs) (h x) ∙ ap (λ b. q x || b) (list_any-same p q xs h)

-- ---- the cells of a box

pub up_to : (z w : ℤ) → z ≡ w → (w ≡ pos (at_least_zero z)) ⊎ ((w <ℤ pos 0) × (at_least_zero z ≡ 0))
up_to (pos n) w e = inl (sym e)
up_to (negsuc n) w e = inr (omega (arith, ints), refl)

any_in_side : (lo hi z : ℤ) → list_any (λ i. int_eq z (lo +ℤ pos i)) (range_with_len 0 (at_least_zero (hi +ℤ pos 1 -ℤ lo))) ≡ within lo hi z
any_in_side lo hi z = any_in_range lo z 0 (at_least_zero (hi +ℤ pos 1 -ℤ lo)) ∙ tests lo hi z (at_least_zero (hi +ℤ pos 1 -ℤ lo)) (up_to (hi +ℤ pos 1 -ℤ lo) _ refl)
  where
    tests : (lo hi z : ℤ) (n : ℕ) → (hi +ℤ pos 1 -ℤ lo ≡ pos n) ⊎ (((hi +ℤ pos 1 -ℤ lo) <ℤ pos 0) × (n ≡ 0)) → (int_le (lo +ℤ pos 0) z && int_lt z (lo +ℤ pos (0 + n))) ≡ within lo hi z
    tests lo hi z n (inl e) = grind (arith, ints)
    tests lo hi z n (inr e) = grind (arith, ints)

pub among_cells_of : (b : Extent) (q : Cell) → list_any (λ c. eq_by_cmp cell_cmp q c) (cells_of b) ≡ holds b q
among_cells_of b q =
    let test : Cell → Bool = λ c. eq_by_cmp cell_cmp q c in
    let row : ℕ → List Cell = λ j. map (λ i. cell (b.lo.x +ℤ pos i) (b.lo.y +ℤ pos j)) (range_with_len 0 (width b)) in
    let in_row : (j : ℕ) → list_any test (row j) ≡ (within b.lo.x b.hi.x q.x && int_eq q.y (b.lo.y +ℤ pos j)) = λ j.
    list_any-map test (λ i. cell (b.lo.x +ℤ pos i) (b.lo.y +ℤ pos j)) (range_with_len 0 (width b))
    ∙ list_any-same (λ i. test (cell (b.lo.x +ℤ pos i) (b.lo.y +ℤ pos j))) (λ i. int_eq q.x (b.lo.x +ℤ pos i) && int_eq q.y (b.lo.y +ℤ pos j)) (range_with_len 0 (width b)) (λ i. by_coordinates q (cell (b.lo.x +ℤ pos i) (b.lo.y +ℤ pos j)))
    ∙ list_any-and (λ i. int_eq q.x (b.lo.x +ℤ pos i)) (int_eq q.y (b.lo.y +ℤ pos j)) (range_with_len 0 (width b))
    ∙ ap (λ t. t && int_eq q.y (b.lo.y +ℤ pos j)) (any_in_side b.lo.x b.hi.x q.x) in
    list_any-flat_map test row (range_with_len 0 (height b))
    ∙ list_any-same (λ j. list_any test (row j)) (λ j. within b.lo.x b.hi.x q.x && int_eq q.y (b.lo.y +ℤ pos j)) (range_with_len 0 (height b)) in_row
    ∙ list_any-and_left (λ j. int_eq q.y (b.lo.y +ℤ pos j)) (within b.lo.x b.hi.x q.x) (range_with_len 0 (height b))
    ∙ ap (λ t. within b.lo.x b.hi.x q.x && t) (any_in_side b.lo.y b.hi.y q.y)

-- ---- any cell in a box

-- a cell of a box that passes a test
pub record IsFound (test : Cell → Bool) (b : Extent) : Type 0 where
  pub at : Cell
  pub inside : holds b at ≡ true
  pub passes : test at ≡ true

record IsAmong (test : Cell → Bool) (cs : List Cell) : Type 0 where
  one : Cell
  among : list_any (is_cell one) cs ≡ true
  passes : test one ≡ true

among_of : (test : Cell → Bool) (cs : List Cell) → list_any test cs ≡ true → IsAmong test cs
among_of test [] h = absurd (cc)
among_of test (c ∷ cs) h = choose (test c) refl (among_of test cs)
  where
    choose : (t : Bool) → test c ≡ t → (list_any test cs ≡ true → IsAmong test cs) → IsAmong test (c ∷ cs)
    choose true e more = record { one = c; among = or_left (is_cell c c) (list_any (is_cell c) cs) (cell_itself c); passes = e }
    choose false e more =
        let rest = more (sym (ap (λ t. t || list_any test cs) e) ∙ h) in
        record { one = rest.one; among = or_right (is_cell rest.one c) (list_any (is_cell rest.one) cs) rest.among; passes = rest.passes }

pub found_in_box : (test : Cell → Bool) (b : Extent) → list_any test (cells_of b) ≡ true → IsFound test b
found_in_box test b h = let k = among_of test (cells_of b) h in record { at = k.one; inside = sym (among_cells_of b k.one) ∙ k.among; passes = k.passes }

-- one that is among the cells of a list
pub any_by : (test : Cell → Bool) (q : Cell) → test q ≡ true → (cs : List Cell) → list_any (is_cell q) cs ≡ true → list_any test cs ≡ true
any_by test q passes [] h = h
any_by test q passes (c ∷ cs) h = choose (is_cell q c) refl h (any_by test q passes cs)
  where
    choose : (t : Bool) → is_cell q c ≡ t → (t || list_any (is_cell q) cs) ≡ true → (list_any (is_cell q) cs ≡ true → list_any test cs ≡ true) → (test c || list_any test cs) ≡ true
    choose true is h rest = or_left (test c) (list_any test cs) (subst (λ (k : Cell). test k ≡ true) (cell_same q c is) passes)
    choose false is h rest = or_right (test c) (list_any test cs) (rest h)

pub any_in_box : (test : Cell → Bool) (b : Extent) (q : Cell) → holds b q ≡ true → test q ≡ true → list_any test (cells_of b) ≡ true
any_in_box test b q held passes = any_by test q passes (cells_of b) (among_cells_of b q ∙ held)

pub in_range : (lo hi : ℤ) (i : ℕ) → i < at_least_zero (hi +ℤ pos 1 -ℤ lo) → within lo hi (lo +ℤ pos i) ≡ true
in_range lo hi i h = by_side (up_to (hi +ℤ pos 1 -ℤ lo) _ refl)
  where
    tests : (n : ℕ) → hi +ℤ pos 1 -ℤ lo ≡ pos n → i < n → within lo hi (lo +ℤ pos i) ≡ true
    tests n e k = grind (arith, ints)

    by_side : (hi +ℤ pos 1 -ℤ lo ≡ pos (at_least_zero (hi +ℤ pos 1 -ℤ lo))) ⊎ (((hi +ℤ pos 1 -ℤ lo) <ℤ pos 0) × (at_least_zero (hi +ℤ pos 1 -ℤ lo) ≡ 0)) → within lo hi (lo +ℤ pos i) ≡ true
    by_side (inl e) = tests _ e h
    by_side (inr n) = absurd (omega (arith, h, n.1))
