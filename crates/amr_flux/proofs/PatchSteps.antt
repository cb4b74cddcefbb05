-- A patch's step where one Courant number holds along each axis: shares shown to be fluxes.
use Rattle.std.proofs.Common.{◌≡◌, ℕ, suc, ◌+◌, ◌-◌, ◌*◌, ◌/◌, ◌^◌, ◌<◌, ◌≤◌, Bool, true, false, ◌&&◌, ℤ, pos, negsuc, ◌+ℤ◌, ◌-ℤ◌, ◌≤ℤ◌, ◌<ℤ◌, [], List, length, take, drop, length-take, refl, sym, ap, ◌∙◌, arith}
use Rattle.std.specs.Prelude.{cond, nat_eq, slice_index, neg_ℤ}
use Rattle.std.proofs.lemmas.Int.{ints}
use Rattle.std.proofs.Math.Nat.{mul-le-mul_right}
use Rattle.amr_def.specs.declared.problem.Problem.{Problem}
use Rattle.amr_faces.proofs.Numbers.{unsheared, x_unsheared}
use Rattle.amr_flux.proofs.Steps.{x_flux_is, y_flux_is}
use Rattle.amr_flux.specs.declared.pace.Pace.{Pace}
use Rattle.amr_faces.specs.Shares.{share_of, signed}
use Rattle.amr_flux.specs.Paces.{AreFit, GoesWith, IsFit, IsFitPatch, IsStepped, mass_with, x_before, x_between, x_donor, x_with, row_before, top_share, y_before, y_between, y_share, y_with}
use Rattle.amr_flux.specs.Tables.{AreXSmall, AreYSmall, count_below, net_inflow, value, x_flux, x_marked, x_through, y_flux, y_marked, y_through}
use Rattle.amr_flux.proofs.Parts.{read}
use Rattle.amr_flux.proofs.Paces.{fits_still}

-- ---- a flux is a share with the sign of the Courant number

module _ (d w : ℕ) (values : List ℕ) (i j : ℕ) where
  pub x_signed : (c : ℤ) → signed c (share_of c d (x_donor c w values i j)) ≡ x_between c d w values i j
  x_signed (pos n) = refl
  x_signed (negsuc n) = refl

  pub y_signed_up : (c : ℤ) → pos 0 ≤ℤ c → signed c (share_of c d (value w values (i + 1) j)) ≡ y_between c d w values i j
  y_signed_up (pos n) h = refl
  y_signed_up (negsuc n) h = absurd (omega (arith, ints, h))

  pub y_signed_down : (c : ℤ) → c <ℤ pos 0 → signed c (share_of c d (value w values (i + 1) (j + 1))) ≡ y_between c d w values i j
  y_signed_down (pos n) h = absurd (omega (arith, ints, h))
  y_signed_down (negsuc n) h = refl

  -- ---- what comes into a cell, less what goes out

  turned : (a b : ℕ) → neg_ℤ (pos a) -ℤ neg_ℤ (pos b) ≡ pos b -ℤ pos a
  turned a b = omega (arith, ints)

  x_net : (c : ℤ) → x_between c d w values i j -ℤ x_between c d w values (i + 1) j ≡ pos (share_of c d (x_before c w values i j)) -ℤ pos (share_of c d (value w values (i + 1) (j + 1)))
  x_net (pos n) = refl
  x_net (negsuc n) =
      turned (suc n * value w values (i + 1) (j + 1) / d) (suc n * value w values (i + 1 + 1) (j + 1) / d)
      ∙ (λ t. pos (suc n * value w values (next t) (j + 1) / d) -ℤ pos (suc n * value w values (i + 1) (j + 1) / d))
    where
      next : i + 1 + 1 ≡ i + 2
      next = omega arith

  y_net_up : (c : ℤ) → pos 0 ≤ℤ c → y_between c d w values i j -ℤ y_between c d w values i (j + 1) ≡ pos (share_of c d (y_before false w values i j)) -ℤ pos (share_of c d (value w values (i + 1) (j + 1)))
  y_net_up (pos n) h = refl
  y_net_up (negsuc n) h = absurd (omega (arith, ints, h))

  y_net_down : (c : ℤ) → c <ℤ pos 0 → y_between c d w values i j -ℤ y_between c d w values i (j + 1) ≡ pos (share_of c d (y_before true w values i j)) -ℤ pos (share_of c d (value w values (i + 1) (j + 1)))
  y_net_down (pos n) h = absurd (omega (arith, ints, h))
  y_net_down (negsuc n) h =
      turned (suc n * value w values (i + 1) (j + 1) / d) (suc n * value w values (i + 1) (j + 1 + 1) / d)
      ∙ (λ t. pos (suc n * value w values (i + 1) (next t) / d) -ℤ pos (suc n * value w values (i + 1) (j + 1) / d))
    where
      next : j + 1 + 1 ≡ j + 2
      next = omega arith

sum_is : (new xs ys m xb yb : ℕ) (x y : ℤ) → new + (xs + ys) ≡ m + (xb + yb) → x ≡ pos xb -ℤ pos xs → y ≡ pos yb -ℤ pos ys → pos new ≡ pos m +ℤ (x +ℤ y)
sum_is new xs ys m xb yb x y e ex ey = omega (arith, ints, e, ex, ey)

module _ (pace : Pace) (w : ℕ) (old new : List ℕ) (i j : ℕ) where
  pub cell_up : pos 0 ≤ℤ pace.y.number → IsStepped pace false w old new i j → pos (value w new (i + 1) (j + 1)) ≡ pos (value w old (i + 1) (j + 1)) +ℤ net_inflow (x_between pace.x.number pace.x.parts w old) (y_between pace.y.number pace.y.parts w old) i j
  cell_up h s = sum_is _ _ _ _ _ _ _ _ s.total (x_net pace.x.parts w old i j pace.x.number) (y_net_up pace.y.parts w old i j pace.y.number h)

  pub cell_down : pace.y.number <ℤ pos 0 → IsStepped pace true w old new i j → pos (value w new (i + 1) (j + 1)) ≡ pos (value w old (i + 1) (j + 1)) +ℤ net_inflow (x_between pace.x.number pace.x.parts w old) (y_between pace.y.number pace.y.parts w old) i j
  cell_down h s = sum_is _ _ _ _ _ _ _ _ s.total (x_net pace.x.parts w old i j pace.x.number) (y_net_down pace.y.parts w old i j pace.y.number h)

-- either way
pub cell_either : (pace : Pace) (w : ℕ) (old new : List ℕ) (i j : ℕ) (b : Bool) → GoesWith b pace.y.number → IsStepped pace b w old new i j → pos (value w new (i + 1) (j + 1)) ≡ pos (value w old (i + 1) (j + 1)) +ℤ net_inflow (x_between pace.x.number pace.x.parts w old) (y_between pace.y.number pace.y.parts w old) i j
cell_either pace w old new i j false h s = cell_up pace w old new i j h s
cell_either pace w old new i j true h s = cell_down pace w old new i j h s

-- ---- sizes across a row

-- row r of the values, from the column of the first cell on
module _ (w h r a b : ℕ) (values : List ℕ) (start : a ≡ r * (w + 2) + 1) (end : b ≡ a + w) where
  pub row_at_edge : (t : ℕ) → t < w → slice_index (take (b - a) (drop a values)) t ≡ value w values (t + 1) r
  row_at_edge t inside = read values a b t (omega (arith, end, inside)) ∙ ap (slice_index values) (omega (arith, start))

  pub edge_fits : (pace : Pace) → IsFitPatch pace w h values → r < h + 2 → AreFit pace (take (b - a) (drop a values))
  edge_fits pace fit inside = record {
    at = λ t below.
        let under : t < w = omega (arith, below, end, length-take (b - a) (drop a values)) in
        fits_still pace _ _ (row_at_edge t under) (fit.y t r under inside);
  }

-- what flows through a top face by the values beside it, after the rows are gone over
pub top_flux : (pace : Pace) (b : Bool) (w h : ℕ) (old ended across : List ℕ) → GoesWith b pace.y.number
    → ((i : ℕ) → i < w → slice_index across i ≡ y_share pace (value w old (i + 1) (row_before b h h))) → ((i : ℕ) → i < w → value w ended (i + 1) (h + 1) ≡ value w old (i + 1) (h + 1))
    → (i : ℕ) → i < w → signed pace.y.number (top_share b pace w h ended across i) ≡ y_between pace.y.number pace.y.parts w old i h
top_flux pace false w h old ended across way leaving above i inside = ap (signed pace.y.number) (leaving i inside) ∙ y_signed_up pace.y.parts w old i h pace.y.number way
top_flux pace true w h old ended across way leaving above i inside = ap (λ v. signed pace.y.number (y_share pace v)) (above i inside) ∙ y_signed_down pace.y.parts w old i h pace.y.number way

-- ---- the cells of a patch and those beside them are fit

place_under : (w h i j : ℕ) → i < w + 2 → j < h + 2 → j * (w + 2) + i < (h + 2) * (w + 2)
place_under w h i j hi hj =
    let m : (j + 1) * (w + 2) ≤ (h + 2) * (w + 2) = mul-le-mul_right (w + 2) (omega (arith, hj)) in
    omega (arith, m, hi)

pub patch_fit : (pace : Pace) (w h : ℕ) (values : List ℕ) → length values ≡ (h + 2) * (w + 2) → ((k : ℕ) → k < length values → slice_index values k < 2 ^ 31 → IsFit pace (slice_index values k)) → AreXSmall w h values → AreYSmall w h values → IsFitPatch pace w h values
patch_fit pace w h values count fit xs ys = record {
  x = λ i j hi hj. fit ((j + 1) * (w + 2) + i) (omega (arith, count, place_under w h i (j + 1) hi (omega (arith, hj)))) (xs.at i j hi hj);
  y = λ i j hi hj. fit (j * (w + 2) + (i + 1)) (omega (arith, count, place_under w h (i + 1) j (omega (arith, hi)) hj)) (ys.at i j hi hj);
}

-- ---- a step as a patch of a problem shows it

module _ (p : Problem) (l : ℕ) (pace : Pace) (w : ℕ) (values : List ℕ) (i j : ℕ) where
  pub x_is : (row : ℕ) → p.shear_x ≡ [] → pace.x.number ≡ p.cx → pace.x.parts ≡ p.d → x_between pace.x.number pace.x.parts w values i j ≡ x_flux p l row w values i j
  x_is row none number parts = x_flux_is p l row w values i j (number ∙ sym (x_unsheared p l (row + j) none)) parts refl refl

  pub y_is : (column : ℕ) → p.shear_y ≡ [] → pace.y.number ≡ p.cy → pace.y.parts ≡ p.d → y_between pace.y.number pace.y.parts w values i j ≡ y_flux p l column w values i j
  y_is column none number parts = y_flux_is p l column w values i j (number ∙ sym (unsheared p l (column + i) none)) parts refl refl

-- with the sizes of border faces, too
module _ (p : Problem) (l : ℕ) (pace : Pace) (w h column row : ℕ) (marks : List Bool) (border values : List ℕ)
    (none_x : p.shear_x ≡ []) (none_y : p.shear_y ≡ []) (x_number : pace.x.number ≡ p.cx) (x_parts : pace.x.parts ≡ p.d) (y_number : pace.y.number ≡ p.cy) (y_parts : pace.y.parts ≡ p.d) where
  x_through_is : (i j : ℕ) → x_with pace w marks border values i j ≡ x_through p l row w marks border values i j
  unfolding x_with x_through
  x_through_is i j = λ t. cond (nat_eq i w && x_marked w marks j) (signed ((x_number ∙ sym (x_unsheared p l (row + j) none_x)) t) (slice_index border (count_below (x_marked w marks) j))) (x_is p l pace w values i j row none_x x_number x_parts t)

  y_through_is : (i j : ℕ) → y_with pace w h marks border values i j ≡ y_through p l column w h marks border values i j
  unfolding y_with y_through
  y_through_is i j = λ t. cond (nat_eq j h && y_marked w h marks i) (signed ((y_number ∙ sym (unsheared p l (column + i) none_y)) t) (slice_index border (count_below (x_marked w marks) h + count_below (y_marked w h marks) i))) (y_is p l pace w values i j column none_y y_number y_parts t)

  pub mass_is : (i j : ℕ) → mass_with pace w h marks border values i j ≡ pos (value w values (i + 1) (j + 1)) +ℤ net_inflow (x_through p l row w marks border values) (y_through p l column w h marks border values) i j
  mass_is i j = λ t. pos (value w values (i + 1) (j + 1)) +ℤ ((x_through_is i j t -ℤ x_through_is (i + 1) j t) +ℤ (y_through_is i j t -ℤ y_through_is i (j + 1) t))
