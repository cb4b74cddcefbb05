-- The flow through a face exchanged for another, by sums of 32 bits, and the masses of a row and of the top cells after it.
use Rattle.std.proofs.Common.{◌≡◌, ◌≢◌, ℕ, ◌+◌, ◌-◌, ◌*◌, ◌/◌, ◌%◌, ◌^◌, ◌<◌, ◌≤◌, ◌⊎◌, inl, inr, Bool, true, false, ◌&&◌, ℤ, pos, negsuc, ◌+ℤ◌, ◌-ℤ◌, ◌≤ℤ◌, ◌<ℤ◌, List, refl, sym, ap, subst, ◌∙◌, div-add-mod', arith}
use Rattle.std.specs.Prelude.{cond, slice_index}
use Rattle.std.proofs.lemmas.Bool.{cases_eq, cases_lt, eq-eqb}
use Rattle.std.proofs.lemmas.Int.{ints}
use Rattle.std.proofs.lemmas.Nat.{same_from_place}
use Rattle.amr_flux.specs.declared.pace.Pace.{Pace}
use Rattle.amr_flux.specs.Paces.{IsWordOf, mass_by_ends, mass_with, top_share, x_between, x_with, y_between, y_share, y_with}
use Rattle.amr_faces.specs.Shares.{signed}
use Rattle.amr_flux.specs.Tables.{count_below, net_inflow, value, x_marked, y_marked}
use Rattle.amr_flux.proofs.Throughs.{not_last}

-- ---- words

pub word_of : (z : ℤ) (n : ℕ) → pos n ≡ z → IsWordOf z n
word_of z n e = record { over = 0; under = 0; same = omega (arith, ints, e) }

pub word_same : {z z' : ℤ} {n n' : ℕ} → z ≡ z' → n ≡ n' → IsWordOf z n → IsWordOf z' n'
word_same {z = z} {z' = z'} {n = n} {n' = n'} ez en has = subst (λ y. IsWordOf y n') ez (subst (λ m. IsWordOf z m) en has)

word_added : (z : ℤ) (n a r : ℕ) → r ≡ (n + a) % 2 ^ 32 → IsWordOf z n → IsWordOf (z +ℤ pos a) r
word_added z n a r e has = record {
  over = has.over + (n + a) / 2 ^ 32;
  under = has.under;
  same = omega (arith, ints, e, has.same, div-add-mod' (n + a) (2 ^ 32));
}

word_taken : (z : ℤ) (n a r : ℕ) → a < 2 ^ 32 → r ≡ (n + (2 ^ 32 - a)) % 2 ^ 32 → IsWordOf z n → IsWordOf (z -ℤ pos a) r
word_taken z n a r small e has = record {
  over = has.over + (n + (2 ^ 32 - a)) / 2 ^ 32;
  under = has.under + 1;
  same = omega (arith, ints, e, small, has.same, div-add-mod' (n + (2 ^ 32 - a)) (2 ^ 32));
}

-- a word that fits is the number itself
pub word_is : (z : ℤ) (n : ℕ) → IsWordOf z n → n < 2 ^ 32 → pos 0 ≤ℤ z → z <ℤ pos (2 ^ 32) → pos n ≡ z
word_is z n has below low high = at_each (cases_lt has.over has.under) (cases_lt has.under has.over)
  where
    at_each : (has.over < has.under) ⊎ (has.under ≤ has.over) → (has.under < has.over) ⊎ (has.over ≤ has.under) → pos n ≡ z
    at_each (inl less) more = absurd (omega (arith, ints, has.same, less, below, low))
    at_each (inr le) (inl more) = absurd (omega (arith, ints, has.same, more, high))
    at_each (inr le) (inr ge) = omega (arith, ints, has.same, le, ge)

-- ---- one flow for another

-- where the flow is towards the low side
pub exchanged_back : (c : ℤ) → c <ℤ pos 0 → (share size mass less new : ℕ) → share < 2 ^ 32 → less ≡ (mass + (2 ^ 32 - share)) % 2 ^ 32 → new ≡ (less + size) % 2 ^ 32 → (z : ℤ) → IsWordOf z mass → IsWordOf (z +ℤ (signed c share -ℤ signed c size)) new
exchanged_back (pos n) h share size mass less new small first then z has = absurd (omega (arith, ints, h))
exchanged_back (negsuc n) h share size mass less new small first then z has =
    word_same (omega (arith, ints)) refl (word_added (z -ℤ pos share) less size new then (word_taken z mass share less small first has))

-- and towards the high side
pub exchanged_ahead : (c : ℤ) → pos 0 ≤ℤ c → (share size mass more new : ℕ) → size < 2 ^ 32 → more ≡ (mass + share) % 2 ^ 32 → new ≡ (more + (2 ^ 32 - size)) % 2 ^ 32 → (z : ℤ) → IsWordOf z mass → IsWordOf (z +ℤ (signed c share -ℤ signed c size)) new
exchanged_ahead (pos n) h share size mass more new small first then z has =
    word_same (omega (arith, ints)) refl (word_taken (z +ℤ pos share) more size new small then (word_added z mass share more first has))
exchanged_ahead (negsuc n) h share size mass more new small first then z has = absurd (omega (arith, ints, h))

-- nothing is exchanged where both flows are the same
pub still : (z x y : ℤ) → y ≡ x → z ≡ z +ℤ (x -ℤ y)
still z x y e = omega (arith, ints, e)

-- ---- fluxes with the sizes handed in

module _ (pace : Pace) (w : ℕ) (marks : List Bool) (border old : List ℕ) where
  pub x_with_inner : (i j : ℕ) → i < w → x_with pace w marks border old i j ≡ x_between pace.x.number pace.x.parts w old i j
  unfolding x_with
  x_with_inner i j h = ap (λ b. cond (b && x_marked w marks j) (signed pace.x.number (slice_index border (count_below (x_marked w marks) j))) (x_between pace.x.number pace.x.parts w old i j)) (not_last i w h)

  pub x_with_end : (j : ℕ) → x_with pace w marks border old w j ≡ cond (x_marked w marks j) (signed pace.x.number (slice_index border (count_below (x_marked w marks) j))) (x_between pace.x.number pace.x.parts w old w j)
  unfolding x_with
  x_with_end j = ap (λ b. cond (b && x_marked w marks j) (signed pace.x.number (slice_index border (count_below (x_marked w marks) j))) (x_between pace.x.number pace.x.parts w old w j)) (eq-eqb w w refl)

  -- the size of a marked end stands at its place
  pub end_marked : (j place : ℕ) → x_marked w marks j ≡ true → place ≡ count_below (x_marked w marks) j → signed pace.x.number (slice_index border place) ≡ x_with pace w marks border old w j
  end_marked j place m is =
      (λ t. signed pace.x.number (slice_index border (is t)))
      ∙ sym (x_with_end j ∙ ap (λ b. cond b (signed pace.x.number (slice_index border (count_below (x_marked w marks) j))) (x_between pace.x.number pace.x.parts w old w j)) m)

  pub end_free : (j : ℕ) → x_marked w marks j ≡ false → x_with pace w marks border old w j ≡ x_between pace.x.number pace.x.parts w old w j
  end_free j m = x_with_end j ∙ ap (λ b. cond b (signed pace.x.number (slice_index border (count_below (x_marked w marks) j))) (x_between pace.x.number pace.x.parts w old w j)) m

  module _ (h : ℕ) where
    pub y_with_inner : (i j : ℕ) → j < h → y_with pace w h marks border old i j ≡ y_between pace.y.number pace.y.parts w old i j
    unfolding y_with
    y_with_inner i j below = ap (λ b. cond (b && y_marked w h marks i) (signed pace.y.number (slice_index border (count_below (x_marked w marks) h + count_below (y_marked w h marks) i))) (y_between pace.y.number pace.y.parts w old i j)) (not_last j h below)

    pub y_with_top : (i : ℕ) → y_with pace w h marks border old i h ≡ cond (y_marked w h marks i) (signed pace.y.number (slice_index border (count_below (x_marked w marks) h + count_below (y_marked w h marks) i))) (y_between pace.y.number pace.y.parts w old i h)
    unfolding y_with
    y_with_top i = ap (λ b. cond (b && y_marked w h marks i) (signed pace.y.number (slice_index border (count_below (x_marked w marks) h + count_below (y_marked w h marks) i))) (y_between pace.y.number pace.y.parts w old i h)) (eq-eqb h h refl)

    -- what is exchanged at a top face, where its size stands among those after the rows'
    pub top_for : (i : ℕ) (f : ℤ) (sizes : List ℕ) → f ≡ y_between pace.y.number pace.y.parts w old i h → ((n : ℕ) → slice_index sizes n ≡ slice_index border (count_below (x_marked w marks) h + n))
        → f -ℤ cond (y_marked w h marks i) (signed pace.y.number (slice_index sizes (count_below (y_marked w h marks) i))) f ≡ y_between pace.y.number pace.y.parts w old i h -ℤ y_with pace w h marks border old i h
    top_for i f sizes is size =
        (λ t. is t -ℤ cond (y_marked w h marks i) (signed pace.y.number (size (count_below (y_marked w h marks) i) t)) (is t))
        ∙ ap (λ z. y_between pace.y.number pace.y.parts w old i h -ℤ z) (sym (y_with_top i))

-- ---- masses with another flow through one face

east_for : (m a b b' s n : ℤ) → (m +ℤ ((a -ℤ b) +ℤ (s -ℤ n))) +ℤ (b -ℤ b') ≡ m +ℤ ((a -ℤ b') +ℤ (s -ℤ n))
east_for m a b b' s n = omega (arith, ints)

north_for : (m a b s n n' : ℤ) → (m +ℤ ((a -ℤ b) +ℤ (s -ℤ n))) +ℤ (n -ℤ n') ≡ m +ℤ ((a -ℤ b) +ℤ (s -ℤ n'))
north_for m a b s n n' = omega (arith, ints)

-- the cells of row j, after the flow through its end was exchanged
module _ (pace : Pace) (w j : ℕ) (marks : List Bool) (border old new ended : List ℕ)
    (made : (i : ℕ) → i < w → pos (value w new (i + 1) (j + 1)) ≡ pos (value w old (i + 1) (j + 1)) +ℤ net_inflow (x_between pace.x.number pace.x.parts w old) (y_between pace.y.number pace.y.parts w old) i j)
    (stays : (q : ℕ) → q ≢ (j + 1) * (w + 2) + w → slice_index ended q ≡ slice_index new q)
    (end : (z : ℤ) → IsWordOf z (value w new w (j + 1)) → IsWordOf (z +ℤ (x_between pace.x.number pace.x.parts w old w j -ℤ x_with pace w marks border old w j)) (value w ended w (j + 1))) where
  pub row_cell : (i : ℕ) → i < w → IsWordOf (mass_by_ends pace w marks border old i j) (value w ended (i + 1) (j + 1))
  row_cell i inside = at_each (cases_lt (i + 1) w)
    where
      at_each : (i + 1 < w) ⊎ (w ≤ i + 1) → IsWordOf (mass_by_ends pace w marks border old i j) (value w ended (i + 1) (j + 1))
      at_each (inl inner) =
          let m = pos (value w old (i + 1) (j + 1)) in
          let yb = y_between pace.y.number pace.y.parts w old in
          word_of _ _ (ap pos (stays ((j + 1) * (w + 2) + (i + 1)) (λ e. omega (arith, e, inner))) ∙ made i inside
          ∙ (λ t. m +ℤ ((sym (x_with_inner pace w marks border old i j inside) t -ℤ sym (x_with_inner pace w marks border old (i + 1) j inner) t) +ℤ (yb i j -ℤ yb i (j + 1)))))
      at_each (inr past) =
          let m = pos (value w old (i + 1) (j + 1)) in
          let xb = x_between pace.x.number pace.x.parts w old in
          let xs = x_with pace w marks border old in
          let yb = y_between pace.y.number pace.y.parts w old in
          let last : w ≡ i + 1 = omega (arith, past, inside) in
          let z = m +ℤ net_inflow xb yb i j in
          let here : IsWordOf z (value w new w (j + 1)) = word_of z _ (ap (λ n. pos (value w new n (j + 1))) last ∙ made i inside) in
          word_same
          ((λ t. z +ℤ (xb (last t) j -ℤ xs (last t) j)) ∙ east_for m (xb i j) (xb (i + 1) j) (xs (i + 1) j) (yb i j) (yb i (j + 1))
          ∙ (λ t. m +ℤ ((sym (x_with_inner pace w marks border old i j inside) t -ℤ xs (i + 1) j) +ℤ (yb i j -ℤ yb i (j + 1)))))
          (ap (λ n. value w ended n (j + 1)) last) (end z here)

-- all cells, after the flows through the top faces were exchanged
module _ (pace : Pace) (w h : ℕ) (marks : List Bool) (border old ended topped : List ℕ)
    (made : (i j : ℕ) → i < w → j < h → IsWordOf (mass_by_ends pace w marks border old i j) (value w ended (i + 1) (j + 1)))
    (stays : (q : ℕ) → ((i : ℕ) → i < w → q ≢ h * (w + 2) + (i + 1)) → slice_index topped q ≡ slice_index ended q)
    (tops : (i : ℕ) (z : ℤ) → i < w → IsWordOf z (value w ended (i + 1) h) → IsWordOf (z +ℤ (y_between pace.y.number pace.y.parts w old i h -ℤ y_with pace w h marks border old i h)) (value w topped (i + 1) h)) where
  pub patch_cell : (i j : ℕ) → i < w → j < h → IsWordOf (mass_with pace w h marks border old i j) (value w topped (i + 1) (j + 1))
  patch_cell i j inside under = at_each (cases_lt (j + 1) h)
    where
      at_each : (j + 1 < h) ⊎ (h ≤ j + 1) → IsWordOf (mass_with pace w h marks border old i j) (value w topped (i + 1) (j + 1))
      at_each (inl below) =
          let m = pos (value w old (i + 1) (j + 1)) in
          let xs = x_with pace w marks border old in
          word_same (λ t. m +ℤ ((xs i j -ℤ xs (i + 1) j) +ℤ (sym (y_with_inner pace w marks border old h i j under) t -ℤ sym (y_with_inner pace w marks border old h i (j + 1) below) t)))
          (sym (stays ((j + 1) * (w + 2) + (i + 1)) (λ i' hi e. omega (arith, below, (same_from_place (j + 1) (i + 1) h (i' + 1) (w + 2) (omega (arith, inside)) (omega (arith, hi)) e).0))))
          (made i j inside under)
      at_each (inr past) =
          let m = pos (value w old (i + 1) (j + 1)) in
          let xs = x_with pace w marks border old in
          let yb = y_between pace.y.number pace.y.parts w old in
          let ys = y_with pace w h marks border old in
          let last : h ≡ j + 1 = omega (arith, past, under) in
          let z = mass_by_ends pace w marks border old i j in
          let here : IsWordOf z (value w ended (i + 1) h) = word_same refl (ap (value w ended (i + 1)) (sym last)) (made i j inside under) in
          word_same
          ((λ t. z +ℤ (yb i (last t) -ℤ ys i (last t))) ∙ north_for m (xs i j) (xs (i + 1) j) (yb i j) (yb i (j + 1)) (ys i (j + 1))
          ∙ (λ t. m +ℤ ((xs i j -ℤ xs (i + 1) j) +ℤ (sym (y_with_inner pace w marks border old h i j under) t -ℤ ys i (j + 1)))))
          (ap (value w topped (i + 1)) last) (tops i z inside here)

-- ---- one top face more

-- in row h, whose cells before column i are done; f i is what is exchanged there
module _ (w h i : ℕ) (values old new : List ℕ) (f : ℕ → ℤ) (column : i < w)
    (before : (q : ℕ) → ((t : ℕ) → t < i → q ≢ h * (w + 2) + (t + 1)) → slice_index values q ≡ slice_index old q)
    (stays : (q : ℕ) → q ≢ h * (w + 2) + (i + 1) → slice_index new q ≡ slice_index values q) where
  pub top_here : value w values (i + 1) h ≡ value w old (i + 1) h
  top_here = before (h * (w + 2) + (i + 1)) (λ t ht e. omega (arith, e, ht))

  pub others_more : (q : ℕ) → ((t : ℕ) → t < i + 1 → q ≢ h * (w + 2) + (t + 1)) → slice_index new q ≡ slice_index old q
  others_more q other = stays q (other i (omega arith)) ∙ before q (λ t ht. other t (omega (arith, ht)))

  pub tops_more : ((z : ℤ) → IsWordOf z (value w values (i + 1) h) → IsWordOf (z +ℤ f i) (value w new (i + 1) h))
      → ((t : ℕ) (z : ℤ) → t < i → IsWordOf z (value w old (t + 1) h) → IsWordOf (z +ℤ f t) (value w values (t + 1) h))
      → (t : ℕ) (z : ℤ) → t < i + 1 → IsWordOf z (value w old (t + 1) h) → IsWordOf (z +ℤ f t) (value w new (t + 1) h)
  tops_more here tops t z below has = at_each (cases_eq t i)
    where
      at_each : (t ≡ i) ⊎ (t ≢ i) → IsWordOf (z +ℤ f t) (value w new (t + 1) h)
      at_each (inl e) =
          word_same (ap (λ n. z +ℤ f n) (sym e)) (ap (λ n. value w new (n + 1) h) (sym e))
          (here z (word_same refl (ap (λ n. value w old (n + 1) h) e ∙ sym top_here) has))
      at_each (inr ne) =
          word_same refl (sym (stays (h * (w + 2) + (t + 1)) (λ e. ne (omega (arith, e))))) (tops t z (omega (arith, below, ne)) has)

  -- where the row above is as before, so is what flows out of it
  pub share_still : (b : Bool) (pace : Pace) (across : List ℕ) → top_share b pace w h values across i ≡ top_share b pace w h old across i
  share_still false pace across = refl
  share_still true pace across =
      ap (y_share pace) (before ((h + 1) * (w + 2) + (i + 1)) (λ t ht e. omega (arith, (same_from_place (h + 1) (i + 1) h (t + 1) (w + 2) (omega (arith, column)) (omega (arith, ht, column)) e).0)))
