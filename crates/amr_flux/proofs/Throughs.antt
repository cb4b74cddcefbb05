-- What the rows of an update read and give.
use Rattle.std.proofs.Common.{◌≡◌, ◌≢◌, ℕ, ◌+◌, ◌*◌, ◌<◌, ◌≤◌, ◌⊎◌, inl, inr, Bool, true, false, ◌&&◌, ℤ, pos, ◌+ℤ◌, ◌-ℤ◌, List, drop, refl, sym, ap, subst, ◌∙◌, arith}
use Rattle.std.specs.Prelude.{cond, nat_eq, slice_index, slice_index_or}
use Rattle.std.proofs.lemmas.Bool.{cases_eq, cases_lt, eq-eqb, eqb-true}
use Rattle.std.proofs.lemmas.List.{get_or-drop}
use Rattle.std.proofs.lemmas.Nat.{same_from_place}
use Rattle.amr_def.specs.declared.problem.Problem.{Problem}
use Rattle.amr_def.specs.Flux.{flow}
use Rattle.amr_faces.specs.Shares.{signed}
use Rattle.amr_flux.specs.Rows.{net_in_row}
use Rattle.amr_faces.specs.Numbers.{x_number, y_number}
use Rattle.amr_flux.specs.Tables.{IsOtherPlace, count_below, net_inflow, value, x_flux, x_marked, x_through, y_flux, y_marked, y_through}

-- ---- rows that still have their old values

module _ (w j : ℕ) (values old : List ℕ) (before : (q : ℕ) → IsOtherPlace w j q → slice_index values q ≡ slice_index old q) where
  later_place : (r i : ℕ) → j < r → i < w + 2 → IsOtherPlace w j (r * (w + 2) + i)
  later_place r i late narrow i' j' hi hj e = let same = same_from_place r i (j' + 1) (i' + 1) (w + 2) narrow (omega arith) e in absurd (omega (arith, same.0, hj, late))

  pub later : (r i k : ℕ) → j < r → i < w + 2 → k ≡ r * (w + 2) + i → slice_index values k ≡ value w old i r
  later r i k late narrow is = ap (slice_index values) is ∙ before (r * (w + 2) + i) (later_place r i late narrow)

-- ---- fluxes of the faces of a row

pub not_last : (a b : ℕ) → a < b → nat_eq a b ≡ false
not_last a b h = at_each (nat_eq a b) refl
  where
    at_each : (t : Bool) → nat_eq a b ≡ t → nat_eq a b ≡ false
    at_each true e = absurd (omega (arith, eqb-true a b e, h))
    at_each false e = e

module _ (p : Problem) (l first w : ℕ) (marks : List Bool) (border old : List ℕ) (j : ℕ) where
  pub x_flux_inner : (k : ℕ) → k < w → x_flux p l first w old k j ≡ x_through p l first w marks border old k j
  unfolding x_through
  x_flux_inner k h = sym (ap (λ b. cond (b && x_marked w marks j) (signed (x_number p l (first + j)) (slice_index border (count_below (x_marked w marks) j))) (x_flux p l first w old k j)) (not_last k w h))

  pub x_flux_last : {n : ℤ} {m : Bool} {used : ℕ} {v : ℤ} → n ≡ x_number p l (first + j) → m ≡ x_marked w marks j → used ≡ count_below (x_marked w marks) j → v ≡ x_flux p l first w old w j
      → cond m (signed n (slice_index border used)) v ≡ x_through p l first w marks border old w j
  unfolding x_through
  x_flux_last en em eu ev =
      (λ t. cond (em t) (signed (en t) (slice_index border (eu t))) (ev t))
      ∙ sym (ap (λ b. cond (b && x_marked w marks j) (signed (x_number p l (first + j)) (slice_index border (count_below (x_marked w marks) j))) (x_flux p l first w old w j)) (eq-eqb w w refl))

  -- the faces of a row by the values, and then with the last one's border flux
  pub x_made : (one two : List ℤ) (n : ℤ) (m : Bool) (used : ℕ)
      → ((k : ℕ) → k < w + 1 → slice_index_or one k (pos 0) ≡ x_flux p l first w old k j)
      → n ≡ x_number p l (first + j) → m ≡ x_marked w marks j → used ≡ count_below (x_marked w marks) j
      → slice_index_or two w (pos 0) ≡ cond m (signed n (slice_index border used)) (slice_index_or one w (pos 0))
      → ((k : ℕ) → k ≢ w → slice_index_or two k (pos 0) ≡ slice_index_or one k (pos 0))
      → (k : ℕ) → k ≤ w → slice_index_or two k (pos 0) ≡ x_through p l first w marks border old k j
  x_made one two n m used each en em eu last others k h = at_each (cases_lt k w)
    where
      at_each : (k < w) ⊎ (w ≤ k) → slice_index_or two k (pos 0) ≡ x_through p l first w marks border old k j
      at_each (inl below) = others k (λ e. omega (arith, e, below)) ∙ each k (omega (arith, below)) ∙ x_flux_inner k below
      at_each (inr past) =
          let same : k ≡ w = omega (arith, h, past) in
          ap (λ q. slice_index_or two q (pos 0)) same ∙ last ∙ x_flux_last en em eu (each w (omega arith)) ∙ ap (λ q. x_through p l first w marks border old q j) (sym same)

module _ (p : Problem) (l first w h : ℕ) (marks : List Bool) (border old : List ℕ) where
  -- the y faces at the low side of cells of the patch
  pub y_flux_inner : (i j : ℕ) → j < h → y_flux p l first w old i j ≡ y_through p l first w h marks border old i j
  unfolding y_through
  y_flux_inner i j below = sym (ap (λ b. cond (b && y_marked w h marks i) (signed (y_number p l (first + i)) (slice_index border (count_below (x_marked w marks) h + count_below (y_marked w h marks) i))) (y_flux p l first w old i j)) (not_last j h below))

  pub y_flux_last : (i : ℕ) {m : Bool} → m ≡ y_marked w h marks i
      → cond m (signed (y_number p l (first + i)) (slice_index border (count_below (x_marked w marks) h + count_below (y_marked w h marks) i))) (y_flux p l first w old i h) ≡ y_through p l first w h marks border old i h
  unfolding y_through
  y_flux_last i em =
      (λ t. cond (em t) (signed (y_number p l (first + i)) (slice_index border (count_below (x_marked w marks) h + count_below (y_marked w h marks) i))) (y_flux p l first w old i h))
      ∙ sym (ap (λ b. cond (b && y_marked w h marks i) (signed (y_number p l (first + i)) (slice_index border (count_below (x_marked w marks) h + count_below (y_marked w h marks) i))) (y_flux p l first w old i h)) (eq-eqb h h refl))

  -- those at the high side of row j
  pub y_made : (j i used : ℕ) (rest : List ℕ) {a v : ℤ} → rest ≡ drop used border → used ≡ count_below (x_marked w marks) (j + 1) → v ≡ y_flux p l first w old i (j + 1)
      → a ≡ cond (nat_eq (j + 1) h && y_marked w h marks i) (signed (y_number p l (first + i)) (slice_index rest (count_below (y_marked w h marks) i))) v
      → a ≡ y_through p l first w h marks border old i (j + 1)
  unfolding y_through
  y_made j i used rest {v = v} er eu ev is = is ∙ ap (λ r. cond (nat_eq (j + 1) h && y_marked w h marks i) (signed (y_number p l (first + i)) (slice_index r (count_below (y_marked w h marks) i))) v) er ∙ at_each (nat_eq (j + 1) h) refl
    where
      at_each : (b : Bool) → nat_eq (j + 1) h ≡ b
          → cond (nat_eq (j + 1) h && y_marked w h marks i) (signed (y_number p l (first + i)) (slice_index (drop used border) (count_below (y_marked w h marks) i))) v
          ≡ cond (nat_eq (j + 1) h && y_marked w h marks i) (signed (y_number p l (first + i)) (slice_index border (count_below (x_marked w marks) h + count_below (y_marked w h marks) i))) (y_flux p l first w old i (j + 1))
      at_each true e =
          let all : used ≡ count_below (x_marked w marks) h = eu ∙ ap (count_below (x_marked w marks)) (eqb-true (j + 1) h e) in
          let size : slice_index (drop used border) (count_below (y_marked w h marks) i) ≡ slice_index border (count_below (x_marked w marks) h + count_below (y_marked w h marks) i) =
          get_or-drop used border (count_below (y_marked w h marks) i) 0 ∙ ap (λ n. slice_index border (n + count_below (y_marked w h marks) i)) all in
          λ t. cond (nat_eq (j + 1) h && y_marked w h marks i) (signed (y_number p l (first + i)) (size t)) (ev t)
      at_each false e =
          ap (λ b. cond (b && y_marked w h marks i) (signed (y_number p l (first + i)) (slice_index (drop used border) (count_below (y_marked w h marks) i))) v) e
          ∙ ev
          ∙ sym (ap (λ b. cond (b && y_marked w h marks i) (signed (y_number p l (first + i)) (slice_index border (count_below (x_marked w marks) h + count_below (y_marked w h marks) i))) (y_flux p l first w old i (j + 1))) e)

-- a flux that is the one by the size where a face of the last row is marked, and else the one of before
pub top_by : {a b v : ℤ} (last marked : Bool) → last ≡ true → (marked ≡ true → a ≡ b) → (marked ≡ false → a ≡ v) → a ≡ cond (last && marked) b v
top_by true true e made kept = made refl
top_by true false e made kept = kept refl
top_by false m e made kept = cc

-- ---- fluxes by the values in a list whose rows from j + 1 on are those of before

module _ (p : Problem) (l first w j : ℕ) (values old : List ℕ) (before : (q : ℕ) → IsOtherPlace w j q → slice_index values q ≡ slice_index old q) where
  pub x_now : (k : ℕ) → k < w + 1 → x_flux p l first w values k j ≡ x_flux p l first w old k j
  unfolding x_flux
  x_now k h =
      let low : value w values k (j + 1) ≡ value w old k (j + 1) = later w j values old before (j + 1) k ((j + 1) * (w + 2) + k) (omega arith) (omega (arith, h)) refl in
      let high : value w values (k + 1) (j + 1) ≡ value w old (k + 1) (j + 1) = later w j values old before (j + 1) (k + 1) ((j + 1) * (w + 2) + (k + 1)) (omega arith) (omega (arith, h)) refl in
      λ t. flow (x_number p l (first + j)) p.d (low t) (high t)

  pub y_now : (i : ℕ) → i < w → y_flux p l first w values i (j + 1) ≡ y_flux p l first w old i (j + 1)
  unfolding y_flux
  y_now i h =
      let low : value w values (i + 1) (j + 1) ≡ value w old (i + 1) (j + 1) = later w j values old before (j + 1) (i + 1) ((j + 1) * (w + 2) + (i + 1)) (omega arith) (omega (arith, h)) refl in
      let high : value w values (i + 1) (j + 1 + 1) ≡ value w old (i + 1) (j + 1 + 1) = later w j values old before (j + 1 + 1) (i + 1) ((j + 1 + 1) * (w + 2) + (i + 1)) (omega arith) (omega (arith, h)) refl in
      λ t. flow (y_number p l (first + i)) p.d (low t) (high t)

-- ---- a row more, by what stands at its places and at all others

module _ (w j : ℕ) (values new old : List ℕ) (f : ℕ → ℕ → ℤ) (kept_else : (k : ℕ) → ((i : ℕ) → i < w → k ≢ (j + 1) * (w + 2) + (i + 1)) → slice_index new k ≡ slice_index values k) where
  pub rows_more : ((i : ℕ) → i < w → pos (value w new (i + 1) (j + 1)) ≡ f i j)
      → ((i j' : ℕ) → i < w → j' < j → pos (value w values (i + 1) (j' + 1)) ≡ f i j')
      → (i j' : ℕ) → i < w → j' < j + 1 → pos (value w new (i + 1) (j' + 1)) ≡ f i j'
  rows_more here before i j' inside below = at_each (cases_eq j' j)
    where
      at_each : (j' ≡ j) ⊎ (j' ≢ j) → pos (value w new (i + 1) (j' + 1)) ≡ f i j'
      at_each (inl e) = let P : ℕ → Type 0 = λ n. pos (value w new (i + 1) (n + 1)) ≡ f i n in subst P (sym e) (here i inside)
      at_each (inr ne) =
          ap pos (kept_else ((j' + 1) * (w + 2) + (i + 1)) (λ i' h e. let same = same_from_place (j' + 1) (i + 1) (j + 1) (i' + 1) (w + 2) (omega arith) (omega arith) e in ne (omega (arith, same.0))))
          ∙ before i j' inside (omega arith)

  pub others_more : ((q : ℕ) → IsOtherPlace w j q → slice_index values q ≡ slice_index old q) → (q : ℕ) → IsOtherPlace w (j + 1) q → slice_index new q ≡ slice_index old q
  others_more before q other = kept_else q (λ i h e. other i j h (omega arith) e) ∙ before q (λ i j' hi hj. other i j' hi (omega arith))

pub total_now : (x low high : List ℤ) (X Y : ℕ → ℕ → ℤ) (m v t j : ℕ) → m ≡ v
    → slice_index_or x t (pos 0) ≡ X t j → slice_index_or x (t + 1) (pos 0) ≡ X (t + 1) j
    → slice_index_or low t (pos 0) ≡ Y t j → slice_index_or high t (pos 0) ≡ Y t (j + 1)
    → pos m +ℤ net_in_row x low high t ≡ pos v +ℤ net_inflow X Y t j
total_now x low high X Y m v t j e ew ee es en = λ i. pos (e i) +ℤ ((ew i -ℤ ee i) +ℤ (es i -ℤ en i))

-- ---- a row in an update

module _ (p : Problem) (l row column w h : ℕ) (marks : List Bool) (border old values : List ℕ) (j : ℕ) (before : (q : ℕ) → IsOtherPlace w j q → slice_index values q ≡ slice_index old q) where
  abbrev xs : ℕ → ℕ → ℤ
  xs = x_through p l row w marks border old

  abbrev ys : ℕ → ℕ → ℤ
  ys = y_through p l column w h marks border old

  -- rows that still have their old values give the old fluxes
  x_same : (k : ℕ) → k < w + 1 → x_through p l row w marks border values k j ≡ xs k j
  unfolding x_through
  x_same k h = ap (λ v. cond (nat_eq k w && x_marked w marks j) (signed (x_number p l (row + j)) (slice_index border (count_below (x_marked w marks) j))) v) (x_now p l row w j values old before k h)

  pub y_same : (i : ℕ) → i < w → y_through p l column w h marks border values i (j + 1) ≡ ys i (j + 1)
  unfolding y_through
  y_same i k = ap (λ v. cond (nat_eq (j + 1) h && y_marked w h marks i) (signed (y_number p l (column + i)) (slice_index border (count_below (x_marked w marks) h + count_below (y_marked w h marks) i))) v) (y_now p l column w j values old before i k)

  -- what a cell of the row gets, by its lists of fluxes
  pub row_total : (x low high : List ℤ) → ((k : ℕ) → k ≤ w → slice_index_or x k (pos 0) ≡ x_through p l row w marks border values k j) → ((i : ℕ) → i < w → slice_index_or low i (pos 0) ≡ ys i j)
      → ((i : ℕ) → i < w → slice_index_or high i (pos 0) ≡ y_through p l column w h marks border values i (j + 1))
      → (t : ℕ) → t < w → pos (value w values (t + 1) (j + 1)) +ℤ net_in_row x low high t ≡ pos (value w old (t + 1) (j + 1)) +ℤ net_inflow xs ys t j
  row_total x low high x_is low_is high_is t i =
      total_now x low high xs ys _ _ t j (later w j values old before (j + 1) (t + 1) _ (omega arith) (omega (arith, i)) refl)
      (x_is t (omega (arith, i)) ∙ x_same t (omega (arith, i))) (x_is (t + 1) (omega (arith, i)) ∙ x_same (t + 1) (omega (arith, i))) (low_is t i) (high_is t i ∙ y_same t i)
