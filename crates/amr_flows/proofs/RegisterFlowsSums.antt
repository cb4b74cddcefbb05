-- Sums of integers: over lists, over the first numbers, over the faces on the edges of a box.
use Rattle.std.proofs.Common.{◌≡◌, ◌∙◌, ℕ, zero, suc, ◌+◌, ◌-◌, ◌*◌, ◌<◌, ◌⊎◌, inl, inr, Bool, true, false, cond, ℤ, pos, ◌+ℤ◌, ◌-ℤ◌, List, [], ◌∷◌, ◌++◌, map, refl, sym, ap, arith}
use Rattle.std.specs.List.{All}
use Rattle.std.proofs.lemmas.Int.{ints}
use Rattle.std.proofs.lemmas.Bool.{cases_eq, cond-false, cond-true, false_from_ne_true}
use Rattle.amr_box.specs.declared.Face.{Face}
use Rattle.amr_box.specs.Cells.{Extent, height, width}
use Rattle.amr_phase.specs.Plans.{total}
use Rattle.amr_faces.specs.Faces.{passing, x_end, y_end}
use Rattle.amr_layout.specs.Surroundings.{edge_count, edge_face, x_start, y_start}
use Rattle.amr_layout.proofs.Edges.{edge_east, edge_north, edge_south, edge_west}
use Rattle.amr_def.proofs.Sums.{sum_z, sum_z-same}

-- the values of g, added up
abbrev pub sum_over : {X : Type 0} → (X → ℤ) → List X → ℤ
sum_over g [] = pos 0
sum_over g (x ∷ xs) = g x +ℤ sum_over g xs

-- ---- over lists

module _ {X : Type 0} where
  pub totals_apart : (f g : X → ℕ) (xs : List X) → pos (total f xs) -ℤ pos (total g xs) ≡ sum_over (λ x. pos (f x) -ℤ pos (g x)) xs
  totals_apart f g [] = refl
  totals_apart f g (x ∷ xs) =
      let rest = totals_apart f g xs in
      let r : pos (f x + total f xs) -ℤ pos (g x + total g xs) ≡ (pos (f x) -ℤ pos (g x)) +ℤ sum_over (λ x. pos (f x) -ℤ pos (g x)) xs = omega (arith, ints, rest) in
      r

  pub over_append : (g : X → ℤ) (xs ys : List X) → sum_over g (xs ++ ys) ≡ sum_over g xs +ℤ sum_over g ys
  over_append g [] ys = let r : sum_over g ys ≡ pos 0 +ℤ sum_over g ys = omega (arith, ints) in r
  over_append g (x ∷ xs) ys =
      let rest = over_append g xs ys in
      let r : g x +ℤ sum_over g (xs ++ ys) ≡ (g x +ℤ sum_over g xs) +ℤ sum_over g ys = omega (arith, ints, rest) in
      r

  pub over_same : (f g : X → ℤ) (xs : List X) → All (λ x. f x ≡ g x) xs → sum_over f xs ≡ sum_over g xs
  over_same f g [] h = refl
  over_same f g (x ∷ xs) h = λ i. h 0 x (omega arith) i +ℤ over_same f g xs (λ k d lt. h (suc k) d (omega arith)) i

  pub over_sum : (f g : X → ℤ) (xs : List X) → sum_over (λ x. f x +ℤ g x) xs ≡ sum_over f xs +ℤ sum_over g xs
  over_sum f g [] = refl
  over_sum f g (x ∷ xs) =
      let rest = over_sum f g xs in
      let r : (f x +ℤ g x) +ℤ sum_over (λ y. f y +ℤ g y) xs ≡ (f x +ℤ sum_over f xs) +ℤ (g x +ℤ sum_over g xs) = omega (arith, ints, rest) in
      r

pub over_map : {X Y : Type 0} (g : Y → ℤ) (f : X → Y) (xs : List X) → sum_over g (map f xs) ≡ sum_over (λ x. g (f x)) xs
over_map g f [] = refl
over_map g f (x ∷ xs) = ap (λ z. g (f x) +ℤ z) (over_map g f xs)

-- ---- over numbers

pub below_split : (g : ℕ → ℤ) (m n : ℕ) → sum_z g (m + n) ≡ sum_z g m +ℤ sum_z (λ i. g (m + i)) n
below_split g m zero = ap (sum_z g) (let e : m + 0 ≡ m = omega arith in e) ∙ (let r : sum_z g m ≡ sum_z g m +ℤ pos 0 = omega (arith, ints) in r)
below_split g m (suc n) =
    let rest = below_split g m n in
    let next : m + suc n ≡ suc (m + n) = omega arith in
    let r : sum_z g (m + n) +ℤ g (m + n) ≡ sum_z g m +ℤ (sum_z (λ i. g (m + i)) n +ℤ g (m + n)) = omega (arith, ints, rest) in
    ap (sum_z g) next ∙ r

module _ (t : ℕ → Bool) (v : ℤ) where
  pub none_below : (n : ℕ) → ((i : ℕ) → i < n → t i ≡ true → ⊥) → sum_z (λ i. cond (t i) v (pos 0)) n ≡ pos 0
  none_below zero h = refl
  none_below (suc n) h = λ i. none_below n (λ k lt. h k (omega arith)) i +ℤ cond-false (t n) v (pos 0) (false_from_ne_true (t n) (h n (omega arith))) i

  -- one number below n passes
  pub one_below : (n j : ℕ) → j < n → t j ≡ true → ((i : ℕ) → i < n → t i ≡ true → i ≡ j) → sum_z (λ i. cond (t i) v (pos 0)) n ≡ v
  one_below zero j lt at once = absurd (omega arith)
  one_below (suc n) j lt at once = by_place (cases_eq j n) (λ below. one_below n j below at (λ i lt' h. once i (omega arith) h))
    where
      by_place : (j ≡ n) ⊎ (j ≡ n → ⊥) → (j < n → sum_z (λ i. cond (t i) v (pos 0)) n ≡ v) → sum_z (λ i. cond (t i) v (pos 0)) n +ℤ cond (t n) v (pos 0) ≡ v
      by_place (inl e) before =
          let none : sum_z (λ i. cond (t i) v (pos 0)) n ≡ pos 0 = none_below n (λ i below h. let same : i ≡ j = once i (omega arith) h in omega (arith, same, e, below)) in
          let here : cond (t n) v (pos 0) ≡ v = cond-true (t n) v (pos 0) (ap t (sym e) ∙ at) in
          omega (arith, ints, none, here)
      by_place (inr ne) before =
          let rest : sum_z (λ i. cond (t i) v (pos 0)) n ≡ v = before (omega arith) in
          let here : cond (t n) v (pos 0) ≡ pos 0 = cond-false (t n) v (pos 0) (false_from_ne_true (t n) (λ h. ne (sym (once n (omega arith) h)))) in
          omega (arith, ints, rest, here)

-- ---- over faces

pub over_passing : (g : Face → ℤ) (test : Face → Bool) (f : ℕ → Face) (n : ℕ) → sum_over g (passing test f n) ≡ sum_z (λ i. cond (test (f i)) (g (f i)) (pos 0)) n
over_passing g test f zero = refl
over_passing g test f (suc n) = over_append g (passing test f n) (cond (test (f n)) (f n ∷ []) []) ∙ (λ i. over_passing g test f n i +ℤ one (test (f n)) i)
  where
    one : (t : Bool) → sum_over g (cond t (f n ∷ []) []) ≡ cond t (g (f n)) (pos 0)
    one true = let r : g (f n) +ℤ pos 0 ≡ g (f n) = omega (arith, ints) in r
    one false = refl

-- the edges of a box one after another
pub over_edges : (g : Face → ℤ) (b : Extent) → sum_z (λ n. g (edge_face b n)) (edge_count b)
    ≡ (sum_z (λ j. g (x_start b j)) (height b) +ℤ sum_z (λ j. g (x_end b j)) (height b)) +ℤ (sum_z (λ i. g (y_start b i)) (width b) +ℤ sum_z (λ i. g (y_end b i)) (width b))
over_edges g b =
    let h = height b in
    let w = width b in
    let f : ℕ → ℤ = λ n. g (edge_face b n) in
    let count : 2 * (h + w) ≡ h + (h + (w + w)) = omega arith in
    let east : (j : ℕ) → j < h → g (edge_face b (h + j)) ≡ g (x_end b j) = λ j lt. ap g (edge_east b (h + j) (omega arith) (omega arith) ∙ ap (x_end b) (let e : h + j - h ≡ j = omega arith in e)) in
    let south : (i : ℕ) → i < w → g (edge_face b (h + (h + i))) ≡ g (y_start b i) = λ i lt. ap g (edge_south b (h + (h + i)) (omega arith) (omega arith) ∙ ap (y_start b) (let e : h + (h + i) - 2 * h ≡ i = omega arith in e)) in
    let north : (i : ℕ) → i < w → g (edge_face b (h + (h + (w + i)))) ≡ g (y_end b i) = λ i lt. ap g (edge_north b (h + (h + (w + i))) (omega arith) ∙ ap (y_end b) (let e : h + (h + (w + i)) - (2 * h + w) ≡ i = omega arith in e)) in
    let parts = below_split f h (h + (w + w)) in
    let parts' = below_split (λ n. f (h + n)) h (w + w) in
    let parts'' = below_split (λ n. f (h + (h + n))) w w in
    let a = sum_z-same f (λ j. g (x_start b j)) h (λ j lt. ap g (edge_west b j lt)) in
    let b' = sum_z-same (λ j. f (h + j)) (λ j. g (x_end b j)) h east in
    let c = sum_z-same (λ i. f (h + (h + i))) (λ i. g (y_start b i)) w south in
    let d = sum_z-same (λ i. f (h + (h + (w + i)))) (λ i. g (y_end b i)) w north in
    ap (sum_z f) count ∙ omega (arith, ints, parts, parts', parts'', a, b', c, d)
