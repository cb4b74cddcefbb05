-- The signature of the cells of a box that pass a test, as counts over the places of each column and of each row.
use Rattle.std.proofs.Common.{◌≡◌, ◌≢◌, ℕ, zero, suc, ◌+◌, ◌<◌, ◌≤◌, Bool, true, false, cond, ◌&&◌, ℤ, pos, ◌+ℤ◌, List, [], ◌∷◌, map, length, refl, sym, ap, ◌∙◌, arith, add-one, ◌⊎◌, inl, inr}
use Rattle.std.proofs.Math.Bool.{and-false, and-true}
use Rattle.std.specs.List.{count_by, filter, flat_map, range_with_len, sum_by}
use Rattle.std.specs.Ordering.{int_eq}
use Rattle.std.proofs.lemmas.Int.{ints}
use Rattle.std.proofs.lemmas.List.Sums.{count_by-le-length, length-filter, sum_by-append, sum_by-cons, sum_by_push}
use Rattle.std.proofs.lemmas.List.FromFn.{length-range_with_len}
use Rattle.std.proofs.lemmas.List.Concat.{flat_map-cons}
use Rattle.amr_box.specs.declared.Cell.{Cell}
use Rattle.amr_box.specs.declared.Axis.TheVariants.{X, Y}
use Rattle.amr_box.specs.Cells.{Extent, cell, cells_of, width, height}
use Rattle.amr_box.proofs.Numbers.{range_more}
use Rattle.amr_def.specs.Signature.{signature}
use Rattle.amr_sign.specs.Counts.{bit, count_to}

-- ---- sums

sum_by-same : {A : Type 0} (f g : A → ℕ) → ((x : A) → f x ≡ g x) → (xs : List A) → sum_by f xs ≡ sum_by g xs
sum_by-same f g same [] = refl
sum_by-same f g same (x ∷ xs) = sum_by-cons f x xs ∙ ap (λ (n : ℕ). n + sum_by f xs) (same x) ∙ ap (λ (n : ℕ). g x + n) (sum_by-same f g same xs) ∙ sym (sum_by-cons g x xs)

sum_by-map : {A B : Type 0} (g : B → ℕ) (f : A → B) (xs : List A) → sum_by g (map f xs) ≡ sum_by (λ x. g (f x)) xs
sum_by-map g f [] = refl
sum_by-map g f (x ∷ xs) = sum_by-cons g (f x) (map f xs) ∙ ap (λ (n : ℕ). g (f x) + n) (sum_by-map g f xs) ∙ sym (sum_by-cons (λ x. g (f x)) x xs)

sum_by-flat_map : {A B : Type 0} (g : B → ℕ) (f : A → List B) (xs : List A) → sum_by g (flat_map f xs) ≡ sum_by (λ x. sum_by g (f x)) xs
sum_by-flat_map g f [] = refl
sum_by-flat_map g f (x ∷ xs) =
    ap (sum_by g) (flat_map-cons f x xs) ∙ sum_by-append g (f x) (flat_map f xs) ∙ ap (λ (n : ℕ). sum_by g (f x) + n) (sum_by-flat_map g f xs) ∙ sym (sum_by-cons (λ x. sum_by g (f x)) x xs)

count_by-filter : {A : Type 0} (p q : A → Bool) (xs : List A) → count_by p (filter q xs) ≡ count_by (λ x. q x && p x) xs
count_by-filter p q [] = refl
count_by-filter p q (x ∷ xs) = by_test (q x) (count_by-filter p q xs) ∙ sym (sum_by-cons (λ x. bit (q x && p x)) x xs)
  where
    by_test : (t : Bool) → count_by p (filter q xs) ≡ count_by (λ x. q x && p x) xs → count_by p (cond t (x ∷ filter q xs) (filter q xs)) ≡ bit (t && p x) + count_by (λ x. q x && p x) xs
    by_test true e = sum_by-cons (λ x. bit (p x)) x (filter q xs) ∙ ap (λ (n : ℕ). bit (p x) + n) e
    by_test false e = e ∙ omega arith

-- a sum of which all terms but that of k are 0
sum_none : (g : ℕ → ℕ) (a n k : ℕ) → k < a → ((i : ℕ) → i ≢ k → g i ≡ 0) → sum_by g (range_with_len a n) ≡ 0
sum_none g a zero k past none = refl
sum_none g a (suc n) k past none =
    let here : g a ≡ 0 = none a (omega arith) in
    let rest : sum_by g (range_with_len (a + 1) n) ≡ 0 = sum_none g (a + 1) n k (omega arith) none in
    sum_by-cons g a (range_with_len (a + 1) n) ∙ omega arith

sum_one : (g : ℕ → ℕ) (a n k : ℕ) → a ≤ k → k < a + n → ((i : ℕ) → i ≢ k → g i ≡ 0) → sum_by g (range_with_len a n) ≡ g k
sum_one g a zero k from to none = absurd (omega arith)
sum_one g a (suc n) k from to none = sum_by-cons g a (range_with_len (a + 1) n) ∙ at_first (split a k from) (λ below. sum_one g (a + 1) n k (omega arith) (omega arith) none)
  where
    split : (a k : ℕ) → a ≤ k → (a ≡ k) ⊎ (a < k)
    split a k h = grind arith

    at_first : (a ≡ k) ⊎ (a < k) → (a < k → sum_by g (range_with_len (a + 1) n) ≡ g k) → g a + sum_by g (range_with_len (a + 1) n) ≡ g k
    at_first (inl e) more = ap (λ (m : ℕ). g a + m) (sum_none g (a + 1) n k (omega arith) none) ∙ ap (λ (m : ℕ). g m + 0) e ∙ omega arith
    at_first (inr below) more =
        let here : g a ≡ 0 = none a (omega arith) in
        let rest : sum_by g (range_with_len (a + 1) n) ≡ g k = more below in
        omega arith

zeros : {A : Type 0} (xs : List A) → sum_by (λ x. 0) xs ≡ 0
zeros [] = refl
zeros (x ∷ xs) =
    let rest : sum_by (λ x. 0) xs ≡ 0 = zeros xs in
    sum_by-cons (λ x. 0) x xs ∙ omega arith

map-same : {A : Type 0} (f g : ℕ → A) (a n : ℕ) → ((k : ℕ) → k < a + n → f k ≡ g k) → map f (range_with_len a n) ≡ map g (range_with_len a n)
map-same f g a zero same = refl
map-same f g a (suc n) same = ap (λ x. x ∷ map f (range_with_len (a + 1) n)) (same a (omega arith)) ∙ ap (λ xs. g a ∷ xs) (map-same f g (a + 1) n (λ k h. same k (omega arith)))

pub map_to-same : {A : Type 0} (f g : ℕ → A) (n : ℕ) → ((k : ℕ) → k < n → f k ≡ g k) → map f (range_with_len 0 n) ≡ map g (range_with_len 0 n)
map_to-same f g n same = map-same f g 0 n (λ k h. same k (omega arith))

-- ---- one number more

pub count_to_more : (test : ℕ → Bool) (n : ℕ) → count_to test (n + 1) ≡ count_to test n + bit (test n)
count_to_more test n =
    rw add-one (ap (count_by test) (range_more 0 n) ∙ sum_by_push (λ k. bit (test k)) (range_with_len 0 n) (0 + n) ∙ ap (λ (k : ℕ). count_to test n + bit (test k)) (omega arith))

pub count_to_bound : (test : ℕ → Bool) (n : ℕ) → count_to test n ≤ n
count_to_bound test n = omega (arith, count_by-le-length test (range_with_len 0 n), length-range_with_len 0 n)

pub count_to-same : (f g : ℕ → Bool) (n : ℕ) → ((k : ℕ) → f k ≡ g k) → count_to f n ≡ count_to g n
count_to-same f g n same = sum_by-same (λ k. bit (f k)) (λ k. bit (g k)) (λ k. ap bit (same k)) (range_with_len 0 n)

-- ---- one column and one row

apart : (lo : ℤ) (i k : ℕ) → i ≢ k → int_eq (lo +ℤ pos i) (lo +ℤ pos k) ≡ false
apart lo i k h = grind (arith, ints)

together : (lo : ℤ) (k : ℕ) → int_eq (lo +ℤ pos k) (lo +ℤ pos k) ≡ true
together lo k = grind (arith, ints)

module _ (test : Cell → Bool) (b : Extent) where
  -- whether the cell in column i and row j of the box passes
  abbrev pub at : ℕ → ℕ → Bool
  at i j = test (cell (b.lo.x +ℤ pos i) (b.lo.y +ℤ pos j))

  -- the count of a test on the cells that pass, row by row
  by_rows : (p : Cell → Bool) → count_by p (filter test (cells_of b)) ≡ sum_by (λ j. sum_by (λ i. bit (at i j && p (cell (b.lo.x +ℤ pos i) (b.lo.y +ℤ pos j)))) (range_with_len 0 (width b))) (range_with_len 0 (height b))
  by_rows p =
      let row : ℕ → List Cell = λ j. map (λ i. cell (b.lo.x +ℤ pos i) (b.lo.y +ℤ pos j)) (range_with_len 0 (width b)) in
      let both : Cell → ℕ = λ c. bit (test c && p c) in
      count_by-filter p test (cells_of b)
      ∙ sum_by-flat_map both row (range_with_len 0 (height b))
      ∙ sum_by-same (λ j. sum_by both (row j)) (λ j. sum_by (λ i. both (cell (b.lo.x +ℤ pos i) (b.lo.y +ℤ pos j))) (range_with_len 0 (width b))) (λ j. sum_by-map both (λ i. cell (b.lo.x +ℤ pos i) (b.lo.y +ℤ pos j)) (range_with_len 0 (width b))) (range_with_len 0 (height b))

  column : (k : ℕ) → k < width b → count_by (λ c. int_eq c.x (b.lo.x +ℤ pos k)) (filter test (cells_of b)) ≡ count_to (at k) (height b)
  column k inside =
      by_rows (λ c. int_eq c.x (b.lo.x +ℤ pos k))
      ∙ sum_by-same _ (λ j. bit (at k j))
      (λ j. sum_one (λ i. bit (at i j && int_eq (b.lo.x +ℤ pos i) (b.lo.x +ℤ pos k))) 0 (width b) k (omega arith) (omega arith) (λ i ne. ap (λ (t : Bool). bit (at i j && t)) (apart b.lo.x i k ne) ∙ ap bit (and-false (at i j)))
      ∙ ap (λ (t : Bool). bit (at k j && t)) (together b.lo.x k) ∙ ap bit (and-true (at k j)))
      (range_with_len 0 (height b))

  row : (k : ℕ) → k < height b → count_by (λ c. int_eq c.y (b.lo.y +ℤ pos k)) (filter test (cells_of b)) ≡ count_to (λ i. at i k) (width b)
  row k inside =
      let term : ℕ → ℕ → ℕ = λ j i. bit (at i j && int_eq (b.lo.y +ℤ pos j) (b.lo.y +ℤ pos k)) in
      by_rows (λ c. int_eq c.y (b.lo.y +ℤ pos k))
      ∙ sum_one (λ j. sum_by (term j) (range_with_len 0 (width b))) 0 (height b) k (omega arith) (omega arith)
      (λ j ne. sum_by-same (term j) (λ i. 0) (λ i. ap (λ (t : Bool). bit (at i j && t)) (apart b.lo.y j k ne) ∙ ap bit (and-false (at i j))) (range_with_len 0 (width b)) ∙ zeros (range_with_len 0 (width b)))
      ∙ sum_by-same (term k) (λ i. bit (at i k)) (λ i. ap (λ (t : Bool). bit (at i k && t)) (together b.lo.y k) ∙ ap bit (and-true (at i k))) (range_with_len 0 (width b))

  pub columns-are : signature X (filter test (cells_of b)) b ≡ map (λ i. count_to (at i) (height b)) (range_with_len 0 (width b))
  columns-are = map_to-same _ _ (width b) column

  pub rows-are : signature Y (filter test (cells_of b)) b ≡ map (λ j. count_to (λ i. at i j) (width b)) (range_with_len 0 (height b))
  rows-are = map_to-same _ _ (height b) row

  -- the counts of the rows add up to the cells
  pub rows-total : sum_by (λ n. n) (signature Y (filter test (cells_of b)) b) ≡ length (filter test (cells_of b))
  rows-total =
      let row : ℕ → List Cell = λ j. map (λ i. cell (b.lo.x +ℤ pos i) (b.lo.y +ℤ pos j)) (range_with_len 0 (width b)) in
      let one : Cell → ℕ = λ c. bit (test c) in
      ap (sum_by (λ (n : ℕ). n)) rows-are
      ∙ sum_by-map (λ (n : ℕ). n) (λ j. count_to (λ i. at i j) (width b)) (range_with_len 0 (height b))
      ∙ sym (length-filter test (cells_of b)
      ∙ sum_by-flat_map one row (range_with_len 0 (height b))
      ∙ sum_by-same (λ j. sum_by one (row j)) (λ j. count_to (λ i. at i j) (width b)) (λ j. sum_by-map one (λ i. cell (b.lo.x +ℤ pos i) (b.lo.y +ℤ pos j)) (range_with_len 0 (width b))) (range_with_len 0 (height b)))
