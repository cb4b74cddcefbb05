-- The cells of a box inside another, as the cells of the larger one that lie in it, in the same order.
use Rattle.std.proofs.Common.{◌≡◌, ℕ, zero, suc, ◌+◌, ◌-◌, ◌<◌, ◌≤◌, Bool, true, false, cond, ◌&&◌, ℤ, pos, ◌+ℤ◌, ◌-ℤ◌, ◌≤ℤ◌, ◌<ℤ◌, List, [], ◌∷◌, ◌++◌, map, refl, ap, ◌∙◌, arith}
use Rattle.std.specs.List.{filter, flat_map, range_with_len}
use Rattle.std.proofs.lemmas.Int.{ints}
use Rattle.std.proofs.lemmas.List.Elements.{filter-append}
use Rattle.std.proofs.Math.Bool.{and-false, and-true}
use Rattle.std.proofs.lemmas.List.{append-nil}
use Rattle.amr_box.specs.declared.Cell.{Cell}
use Rattle.amr_tags.specs.Stored.{IsPart}
use Rattle.amr_box.specs.Cells.{Extent, at_least_zero, cell, cells_of, height, holds, width, within}
use Rattle.amr_box.proofs.Numbers.{at_least_zero-same, range_parts, side-is}

filter-map : {A B : Type 0} (p : B → Bool) (f : A → B) (xs : List A) → filter p (map f xs) ≡ map f (filter (λ x. p (f x)) xs)
filter-map {B = B} p f [] = refl
filter-map {B = B} p f (x ∷ xs) = choose (p (f x)) (filter-map p f xs)
  where
    choose : (t : Bool) → filter p (map f xs) ≡ map f (filter (λ x. p (f x)) xs) → cond t (f x ∷ filter p (map f xs)) (filter p (map f xs)) ≡ map f (cond t (x ∷ filter (λ x. p (f x)) xs) (filter (λ x. p (f x)) xs))
    choose true e = ap (λ (ys : List B). f x ∷ ys) e
    choose false e = e

filter-flat_map : {A B : Type 0} (p : B → Bool) (f : A → List B) (xs : List A) → filter p (flat_map f xs) ≡ flat_map (λ x. filter p (f x)) xs
filter-flat_map {B = B} p f [] = refl
filter-flat_map {B = B} p f (x ∷ xs) = filter-append p (f x) (flat_map f xs) ∙ ap (λ (ys : List B). filter p (f x) ++ ys) (filter-flat_map p f xs)

filter-none : {A : Type 0} (xs : List A) → filter (λ x. false) xs ≡ []
filter-none [] = refl
filter-none (x ∷ xs) = filter-none xs

flat_map-same : {B : Type 0} (f g : ℕ → List B) (a n : ℕ) → ((k : ℕ) → a ≤ k → k < a + n → f k ≡ g k) → flat_map f (range_with_len a n) ≡ flat_map g (range_with_len a n)
flat_map-same {B = B} f g a zero same = refl
flat_map-same {B = B} f g a (suc n) same =
    ap (λ (ys : List B). ys ++ flat_map f (range_with_len (a + 1) n)) (same a (omega arith) (omega arith))
    ∙ ap (λ (ys : List B). g a ++ ys) (flat_map-same f g (a + 1) n (λ k from to. same k (omega arith) (omega arith)))

map-range-same : {B : Type 0} (f g : ℕ → B) (a n : ℕ) → ((k : ℕ) → a ≤ k → k < a + n → f k ≡ g k) → map f (range_with_len a n) ≡ map g (range_with_len a n)
map-range-same {B = B} f g a zero same = refl
map-range-same {B = B} f g a (suc n) same =
    ap (λ (y : B). y ∷ map f (range_with_len (a + 1) n)) (same a (omega arith) (omega arith))
    ∙ ap (λ (ys : List B). g a ∷ ys) (map-range-same f g (a + 1) n (λ k from to. same k (omega arith) (omega arith)))

filter-range-same : (p q : ℕ → Bool) (a n : ℕ) → ((k : ℕ) → a ≤ k → k < a + n → p k ≡ q k) → filter p (range_with_len a n) ≡ filter q (range_with_len a n)
filter-range-same p q a zero same = refl
filter-range-same p q a (suc n) same =
    ap (λ (t : Bool). cond t (a ∷ filter p (range_with_len (a + 1) n)) (filter p (range_with_len (a + 1) n))) (same a (omega arith) (omega arith))
    ∙ ap (λ (ys : List ℕ). cond (q a) (a ∷ ys) ys) (filter-range-same p q (a + 1) n (λ k from to. same k (omega arith) (omega arith)))

filter-all : (a n : ℕ) → filter (λ k. true) (range_with_len a n) ≡ range_with_len a n
filter-all a zero = refl
filter-all a (suc n) = ap (λ (ks : List ℕ). a ∷ ks) (filter-all (a + 1) n)

-- the numbers of a range in a window of it
filter-window : (p : ℕ → Bool) (d n r : ℕ) → ((k : ℕ) → k < d → p k ≡ false) → ((k : ℕ) → d ≤ k → k < d + n → p k ≡ true) → ((k : ℕ) → d + n ≤ k → p k ≡ false) → filter p (range_with_len 0 ((d + n) + r)) ≡ range_with_len d n
filter-window p d n r before inside after =
    let first : filter p (range_with_len 0 d) ≡ [] = filter-range-same p (λ k. false) 0 d (λ k from to. before k (omega arith)) ∙ filter-none (range_with_len 0 d) in
    let middle : filter p (range_with_len d n) ≡ range_with_len d n = filter-range-same p (λ k. true) d n inside ∙ filter-all d n in
    let last : filter p (range_with_len (d + n) r) ≡ [] = filter-range-same p (λ k. false) (d + n) r (λ k from to. after k from) ∙ filter-none (range_with_len (d + n) r) in
    ap (filter p) (range_parts 0 (d + n) r)
    ∙ filter-append p (range_with_len 0 (d + n)) (range_with_len (0 + (d + n)) r)
    ∙ ap (λ (ks : List ℕ). filter p (range_with_len 0 (d + n)) ++ ks) (ap (λ (k : ℕ). filter p (range_with_len k r)) (omega arith) ∙ last)
    ∙ append-nil (filter p (range_with_len 0 (d + n)))
    ∙ ap (filter p) (range_parts 0 d n)
    ∙ filter-append p (range_with_len 0 d) (range_with_len (0 + d) n)
    ∙ ap (λ (ks : List ℕ). ks ++ filter p (range_with_len (0 + d) n)) first
    ∙ ap (λ (k : ℕ). filter p (range_with_len k n)) (omega arith) ∙ middle

-- the windows of two ranges of coordinates
record IsWindow (low high lo hi : ℤ) : Type 0 where
  from : low ≤ℤ lo
  order : lo ≤ℤ hi
  to : hi ≤ℤ high

offset-is : (low lo : ℤ) → low ≤ℤ lo → pos (at_least_zero (lo -ℤ low)) ≡ lo -ℤ low
offset-is low lo h = at_least_zero-same (lo -ℤ low) (omega (arith, ints))

abbrev size : ℤ → ℤ → ℕ
size low high = at_least_zero (high +ℤ pos 1 -ℤ low)

before-window : (low lo hi : ℤ) (k : ℕ) → (low +ℤ pos k) <ℤ lo → within lo hi (low +ℤ pos k) ≡ false
before-window low lo hi k h = grind (arith, ints)

after-window : (low lo hi : ℤ) (k : ℕ) → hi <ℤ (low +ℤ pos k) → within lo hi (low +ℤ pos k) ≡ false
after-window low lo hi k h = grind (arith, ints)

in-window : (low lo hi : ℤ) (k : ℕ) → lo ≤ℤ (low +ℤ pos k) → (low +ℤ pos k) ≤ℤ hi → within lo hi (low +ℤ pos k) ≡ true
in-window low lo hi k h g = grind (arith, ints)

coordinates : (low high lo hi : ℤ) → IsWindow low high lo hi → filter (λ k. within lo hi (low +ℤ pos k)) (range_with_len 0 (size low high)) ≡ range_with_len (at_least_zero (lo -ℤ low)) (size lo hi)
coordinates low high lo hi w =
    let d = at_least_zero (lo -ℤ low) in
    let n = size lo hi in
    let is_d : pos d ≡ lo -ℤ low = offset-is low lo w.from in
    let is_n : pos n ≡ hi +ℤ pos 1 -ℤ lo = side-is lo hi w.order in
    let is_whole : pos (size low high) ≡ high +ℤ pos 1 -ℤ low = side-is low high (omega (arith, ints, w.from, w.order, w.to)) in
    let cut : size low high ≡ (d + n) + (size low high - (d + n)) = omega (arith, ints, is_d, is_n, is_whole, w.to) in
    ap (λ (m : ℕ). filter (λ k. within lo hi (low +ℤ pos k)) (range_with_len 0 m)) cut
    ∙ filter-window (λ k. within lo hi (low +ℤ pos k)) d n (size low high - (d + n))
    (λ k h. before-window low lo hi k (omega (arith, ints, is_d)))
    (λ k from to. in-window low lo hi k (omega (arith, ints, is_d)) (omega (arith, ints, is_d, is_n)))
    (λ k from. after-window low lo hi k (omega (arith, ints, is_d, is_n)))

map-shift : {B : Type 0} (f : ℕ → B) (d a n : ℕ) → map f (range_with_len (d + a) n) ≡ map (λ k. f (d + k)) (range_with_len a n)
map-shift f d a zero = refl
map-shift {B = B} f d a (suc n) =
    let next : (d + a) + 1 ≡ d + (a + 1) = omega arith in
    ap (λ (ys : List B). f (d + a) ∷ ys) (ap (λ (k : ℕ). map f (range_with_len k n)) next ∙ map-shift f d (a + 1) n)

flat_map-shift : {B : Type 0} (f : ℕ → List B) (d a n : ℕ) → flat_map f (range_with_len (d + a) n) ≡ flat_map (λ k. f (d + k)) (range_with_len a n)
flat_map-shift f d a zero = refl
flat_map-shift {B = B} f d a (suc n) =
    let next : (d + a) + 1 ≡ d + (a + 1) = omega arith in
    ap (λ (ys : List B). f (d + a) ++ ys) (ap (λ (k : ℕ). flat_map f (range_with_len k n)) next ∙ flat_map-shift f d (a + 1) n)

flat_map-kept : {A B : Type 0} (q : A → Bool) (f : A → List B) (xs : List A) → flat_map (λ x. cond (q x) (f x) []) xs ≡ flat_map f (filter q xs)
flat_map-kept q f [] = refl
flat_map-kept {B = B} q f (x ∷ xs) = choose (q x) (flat_map-kept q f xs)
  where
    choose : (t : Bool) → flat_map (λ x. cond (q x) (f x) []) xs ≡ flat_map f (filter q xs) → cond t (f x) [] ++ flat_map (λ x. cond (q x) (f x) []) xs ≡ flat_map f (cond t (x ∷ filter q xs) (filter q xs))
    choose true e = ap (λ (ys : List B). f x ++ ys) e
    choose false e = e

flat_map-eq : {A B : Type 0} (f g : A → List B) → ((x : A) → f x ≡ g x) → (xs : List A) → flat_map f xs ≡ flat_map g xs
flat_map-eq f g same [] = refl
flat_map-eq {B = B} f g same (x ∷ xs) = ap (λ (ys : List B). ys ++ flat_map f xs) (same x) ∙ ap (λ (ys : List B). g x ++ ys) (flat_map-eq f g same xs)

module _ (a b : Extent) (inside : IsPart a b) where
  at : ℕ → ℕ → Cell
  at j i = cell (a.lo.x +ℤ pos i) (a.lo.y +ℤ pos j)

  row_in : ℕ → Bool
  row_in j = within b.lo.y b.hi.y (a.lo.y +ℤ pos j)

  column_in : ℕ → Bool
  column_in i = within b.lo.x b.hi.x (a.lo.x +ℤ pos i)

  across : IsWindow a.lo.x a.hi.x b.lo.x b.hi.x
  across = record { from = inside.west; order = inside.wide; to = inside.east }

  upward : IsWindow a.lo.y a.hi.y b.lo.y b.hi.y
  upward = record { from = inside.south; order = inside.high; to = inside.north }

  -- one row of the larger box
  row : (j : ℕ) → filter (holds b) (map (at j) (range_with_len 0 (width a))) ≡ cond (row_in j) (map (at j) (range_with_len (at_least_zero (b.lo.x -ℤ a.lo.x)) (width b))) []
  unfolding at row_in column_in
  row j = filter-map (holds b) (at j) (range_with_len 0 (width a)) ∙ choose (row_in j)
    where
      choose : (t : Bool) → map (at j) (filter (λ i. column_in i && t) (range_with_len 0 (width a))) ≡ cond t (map (at j) (range_with_len (at_least_zero (b.lo.x -ℤ a.lo.x)) (width b))) []
      choose true =
          ap (map (at j)) (filter-range-same (λ i. column_in i && true) column_in 0 (width a) (λ i from to. and-true (column_in i))
          ∙ coordinates a.lo.x a.hi.x b.lo.x b.hi.x across)
      choose false =
          ap (map (at j)) (filter-range-same (λ i. column_in i && false) (λ i. false) 0 (width a) (λ i from to. and-false (column_in i)) ∙ filter-none (range_with_len 0 (width a)))

  same_cell : (j i : ℕ) → at (at_least_zero (b.lo.y -ℤ a.lo.y) + j) (at_least_zero (b.lo.x -ℤ a.lo.x) + i) ≡ cell (b.lo.x +ℤ pos i) (b.lo.y +ℤ pos j)
  unfolding at
  same_cell j i =
      let x : (a.lo.x +ℤ pos (at_least_zero (b.lo.x -ℤ a.lo.x) + i)) ≡ b.lo.x +ℤ pos i = omega (arith, ints, offset-is a.lo.x b.lo.x inside.west) in
      let y : (a.lo.y +ℤ pos (at_least_zero (b.lo.y -ℤ a.lo.y) + j)) ≡ b.lo.y +ℤ pos j = omega (arith, ints, offset-is a.lo.y b.lo.y inside.south) in
      ap (λ (z : ℤ). cell z (a.lo.y +ℤ pos (at_least_zero (b.lo.y -ℤ a.lo.y) + j))) x ∙ ap (cell (b.lo.x +ℤ pos i)) y

  row_is : (j : ℕ) → map (at (at_least_zero (b.lo.y -ℤ a.lo.y) + j)) (range_with_len (at_least_zero (b.lo.x -ℤ a.lo.x)) (width b)) ≡ map (λ i. cell (b.lo.x +ℤ pos i) (b.lo.y +ℤ pos j)) (range_with_len 0 (width b))
  row_is j =
      let d = at_least_zero (b.lo.x -ℤ a.lo.x) in
      let f = at (at_least_zero (b.lo.y -ℤ a.lo.y) + j) in
      let start : d ≡ d + 0 = omega arith in
      ap (λ (k : ℕ). map f (range_with_len k (width b))) start
      ∙ map-shift f d 0 (width b)
      ∙ map-range-same (λ i. f (d + i)) (λ i. cell (b.lo.x +ℤ pos i) (b.lo.y +ℤ pos j)) 0 (width b) (λ i from to. same_cell j i)

  pub cells_of-window : filter (holds b) (cells_of a) ≡ cells_of b
  unfolding at row_in
  cells_of-window =
      let d = at_least_zero (b.lo.y -ℤ a.lo.y) in
      let shifted : ℕ → List Cell = λ j. map (at j) (range_with_len (at_least_zero (b.lo.x -ℤ a.lo.x)) (width b)) in
      let start : d ≡ d + 0 = omega arith in
      filter-flat_map (holds b) (λ j. map (at j) (range_with_len 0 (width a))) (range_with_len 0 (height a))
      ∙ flat_map-eq _ (λ j. cond (row_in j) (shifted j) []) row (range_with_len 0 (height a))
      ∙ flat_map-kept row_in shifted (range_with_len 0 (height a))
      ∙ ap (flat_map shifted) (coordinates a.lo.y a.hi.y b.lo.y b.hi.y upward)
      ∙ ap (λ (k : ℕ). flat_map shifted (range_with_len k (height b))) start
      ∙ flat_map-shift shifted d 0 (height b)
      ∙ flat_map-same (λ j. shifted (d + j)) (λ j. map (λ i. cell (b.lo.x +ℤ pos i) (b.lo.y +ℤ pos j)) (range_with_len 0 (width b))) 0 (height b) (λ j from to. row_is j)
