-- A row of a patch, read and written as a part of its values, in a step where one Courant number holds along each axis.
use Rattle.std.proofs.Common.{◌≡◌, ◌≢◌, ℕ, zero, suc, ◌+◌, ◌-◌, ◌*◌, ◌<◌, ◌≤◌, ◌⊎◌, inl, inr, ℤ, pos, negsuc, ◌≤ℤ◌, ◌<ℤ◌, List, length, take, drop, length-take, add-one, refl, sym, ap, ◌∙◌, arith}
use Rattle.std.specs.Prelude.{slice_index}
use Rattle.std.proofs.lemmas.Int.{ints}
use Rattle.std.proofs.lemmas.Bool.{cases_eq}
use borrow.Rule.Slice.PartMut.{put_mid}
use Rattle.amr_flux.specs.declared.pace.Pace.{Pace}
use Rattle.amr_flux.specs.Paces.{AreFit, IsFit, came, gone, x_before, x_donor, x_share}
use Rattle.amr_flux.specs.Tables.{value}
use Rattle.amr_flux.proofs.Parts.{kept, read, written}
use Rattle.amr_flux.proofs.Paces.{fits_still}

-- ---- which cells flow, by the sign of the Courant number

module _ (w : ℕ) (values : List ℕ) (i j : ℕ) where
  pub donor_ahead : (c : ℤ) → pos 0 ≤ℤ c → x_donor c w values i j ≡ value w values i (j + 1)
  donor_ahead (pos n) h = refl
  donor_ahead (negsuc n) h = absurd (omega (arith, ints, h))

  pub donor_back : (c : ℤ) → c <ℤ pos 0 → x_donor c w values i j ≡ value w values (i + 1) (j + 1)
  donor_back (pos n) h = absurd (omega (arith, ints, h))
  donor_back (negsuc n) h = refl

  pub before_ahead : (c : ℤ) → pos 0 ≤ℤ c → x_before c w values i j ≡ value w values i (j + 1)
  before_ahead (pos n) h = refl
  before_ahead (negsuc n) h = absurd (omega (arith, ints, h))

  pub before_back : (c : ℤ) → c <ℤ pos 0 → x_before c w values i j ≡ value w values (i + 2) (j + 1)
  before_back (pos n) h = absurd (omega (arith, ints, h))
  before_back (negsuc n) h = refl

-- ---- a cell of a row, by what is known of it in other words

pub cell_moved : (pace : Pace) {r r' m m' g g' e e' : ℕ} → r ≡ r' → m ≡ m' → g ≡ g' → e ≡ e' → r + gone pace m ≡ m + (g + e) → r' + gone pace m' ≡ m' + (g' + e')
cell_moved pace er em eg ee made = (λ i. sym er i + gone pace (sym em i)) ∙ made ∙ (λ i. em i + (eg i + ee i))

-- ---- the part of the values from the row's first cell on

module _ (w j a b k : ℕ) (values : List ℕ) (start : a ≡ (j + 1) * (w + 2) + 1) (end : b ≡ a + k) (narrow : k ≤ w + 1) where
  pub row_here : (t : ℕ) → t < k → slice_index (take (b - a) (drop a values)) t ≡ value w values (t + 1) (j + 1)
  row_here t h = read values a b t (omega (arith, end, h)) ∙ ap (slice_index values) (omega (arith, start))

  pub row_fits : (pace : Pace) → ((i : ℕ) → i < w + 2 → IsFit pace (value w values i (j + 1))) → AreFit pace (take (b - a) (drop a values))
  row_fits pace fit = record {
    at = λ t h.
        let below : t < k = omega (arith, h, end, length-take (b - a) (drop a values)) in
        fits_still pace _ _ (row_here t below) (fit (t + 1) (omega (arith, below, narrow)));
  }

  -- what comes into each cell from the one before it
  pub came_here : (pace : Pace) (first : ℕ) → first ≡ x_share pace (value w values 0 (j + 1)) → (t : ℕ) → t < k + 1 → came pace first (take (b - a) (drop a values)) t ≡ x_share pace (value w values t (j + 1))
  came_here pace first is zero h = is
  came_here pace first is (suc t) h = ap (x_share pace) (row_here t (omega (arith, h)) ∙ ap (λ n. value w values n (j + 1)) (add-one t))

  module _ (part : List ℕ) (count : length part ≡ b - a) (room : a + (b - a) ≤ length values) where
    pub made_here : (t : ℕ) → t < k → value w (put_mid a (b - a) values part) (t + 1) (j + 1) ≡ slice_index part t
    made_here t h = written a (b - a) values part 0 count room ((j + 1) * (w + 2) + (t + 1)) t (omega (arith, start)) (omega (arith, end, h))

    pub others_here : k ≡ w → (q : ℕ) → ((i : ℕ) → i < w → q ≢ (j + 1) * (w + 2) + (i + 1)) → slice_index (put_mid a (b - a) values part) q ≡ slice_index values q
    others_here is q other = kept a (b - a) values part 0 count room q (λ t h e. other t (omega (arith, h, end, is)) (e ∙ omega (arith, start)))

    -- where the part's last entry is of the cell beyond, and stays
    pub others_beyond : k ≡ w + 1 → slice_index part w ≡ slice_index (take (b - a) (drop a values)) w → (q : ℕ) → ((i : ℕ) → i < w → q ≢ (j + 1) * (w + 2) + (i + 1)) → slice_index (put_mid a (b - a) values part) q ≡ slice_index values q
    others_beyond is stays q other = at_each (cases_eq q (a + w))
      where
        at_each : (q ≡ a + w) ⊎ (q ≢ a + w) → slice_index (put_mid a (b - a) values part) q ≡ slice_index values q
        at_each (inl e) =
            written a (b - a) values part 0 count room q w e (omega (arith, end, is)) ∙ stays
            ∙ read values a b w (omega (arith, end, is)) ∙ ap (slice_index values) (sym e)
        at_each (inr ne) = kept a (b - a) values part 0 count room q (λ t h e. apart t (omega (arith, h, end, is)) e ne)
          where
            apart : (t : ℕ) → t < w + 1 → q ≡ a + t → (q ≢ a + w) → ⊥
            apart t h e ne = last t h e ne (cases_eq t w)
              where
                last : (t : ℕ) → t < w + 1 → q ≡ a + t → (q ≢ a + w) → (t ≡ w) ⊎ (t ≢ w) → ⊥
                last t h e ne (inl same) = ne (e ∙ ap (λ n. a + n) same)
                last t h e ne (inr less) = other t (omega (arith, h, less)) (e ∙ omega (arith, start))
