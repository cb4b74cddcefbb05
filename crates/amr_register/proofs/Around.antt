-- Each register cell lies beside the parents of a finer box.
use Rattle.std.proofs.Common.{◌≡◌, ◌∙◌, ℕ, suc, ◌+◌, ◌<◌, ◌≤◌, Bool, true, false, ◌&&◌, ◌||◌, ◌⊎◌, inl, inr, ℤ, pos, negsuc, ◌+ℤ◌, ◌-ℤ◌, ◌≤ℤ◌, ◌<ℤ◌, List, length, refl, sym, ap, subst, arith}
use Rattle.std.specs.Prelude.{is_some, not, slice_index_or}
use Rattle.std.specs.Cmp.{both_ways}
use Rattle.std.specs.List.{Any, Contains}
use Rattle.std.proofs.lemmas.Int.{ints}
use Rattle.std.proofs.lemmas.Bool.{and_parts, cases_lt, or_cases}
use Rattle.std.proofs.lemmas.List.Folds.{Any-from_list_any, list_any_at}
use Rattle.amr_box.specs.declared.Cell.{Cell}
use Rattle.amr_box.specs.Cells.{Extent, IsBoxOf, IsNear, IsProper, at_least_zero, cell, half, has_child_where, holds, moved, parents_of}
use Rattle.amr_box.proofs.CellEquality.{same_cell}
use Rattle.amr_box.proofs.Children.{has_child_more}
use Rattle.amr_box.proofs.Numbers.{half_le as half_order, plus_minus_one}
use Rattle.amr_def.specs.declared.problem.Problem.{Problem}
use Rattle.amr_def.specs.Domain.{Domain, domain, home_cell, in_domain, is_near, wrapped}
use Rattle.amr_def.specs.State.{Level, Masses, is_covered}
use Rattle.amr_def.specs.Facts.{IsLevel, IsNestedLevel}
use Rattle.amr_def.proofs.Flows.{wrapped_before, wrapped_end, wrapped_inside}
use Rattle.amr_def.proofs.LevelLists.{HasAllChildren, child_0}
use Rattle.amr_def.proofs.Nesting.{aligned_even, children, covered_inside, near_east, near_north, near_south, near_west, odd_small}
use Rattle.amr_def.proofs.Nesting.{of_level as of_coarse}
use Rattle.amr_def.proofs.Nests.{IsEven, half_and_odd}
use Rattle.amr_def.proofs.Uncovered.{in_domain-yes, no_children, wrapped_at}
use Rattle.amr_patch.proofs.Rows.{inside, is_inside}
use Rattle.amr_faces.specs.Faces.{IsInDomain}
use Rattle.amr_register.specs.RegisterCells.{has_neighbour_where, is_register_cell}
use Rattle.amr_register.specs.Beside.{stands_beside}
use Rattle.amr_register.specs.CellLists.{FindsAround}
use Rattle.amr_register.proofs.CellLists.{of_level}
use Rattle.amr_register.proofs.CollectLaws.{BoxesDone, is_beside, none_covered}
use Rattle.amr_register.proofs.Homes.{HasSize, IsWithinDomain, size_at, within_domain}

-- ---- along an axis

two_orders : (a b : ℤ) → (a ≤ℤ b) ⊎ (b <ℤ a)
two_orders (pos a) (pos b) = by_size (cases_lt b a)
  where
    by_size : (b < a) ⊎ (a ≤ b) → (pos a ≤ℤ pos b) ⊎ (pos b <ℤ pos a)
    by_size (inl lt) = inr (omega (arith, ints))
    by_size (inr le) = inl (omega (arith, ints))
two_orders (pos a) (negsuc b) = inr (omega (arith, ints))
two_orders (negsuc a) (pos b) = inl (omega (arith, ints))
two_orders (negsuc a) (negsuc b) = by_size (cases_lt a b)
  where
    by_size : (a < b) ⊎ (b ≤ a) → (negsuc a ≤ℤ negsuc b) ⊎ (negsuc b <ℤ negsuc a)
    by_size (inl lt) = inr (omega (arith, ints))
    by_size (inr le) = inl (omega (arith, ints))

-- a coordinate outside of a range whose next one is inside stands just below it
module _ (wrap : Bool) (n : ℕ) (low high z : ℤ) (some : 0 < n) (lo : pos 0 ≤ℤ low) (hi : high <ℤ pos n) (from : pos 0 ≤ℤ z) (to : z <ℤ pos n) (out : low ≤ℤ z → z ≤ℤ high → ⊥) where
  step_below : low ≤ℤ (z +ℤ pos 1) → (z +ℤ pos 1) ≤ℤ high → (low ≤ℤ z) ⊎ (z <ℤ low) → low -ℤ pos 1 ≡ z
  step_below h k (inl le) = absurd (out le (omega (arith, ints)))
  step_below h k (inr gt) = omega (arith, ints)

  end_below : (s : Bool) → pos n ≤ℤ (z +ℤ pos 1) → low ≤ℤ wrapped s n (z +ℤ pos 1) → wrapped s n (z +ℤ pos 1) ≤ℤ high → wrapped s n (low -ℤ pos 1) ≡ z
  end_below false e a b = absurd (omega (arith, ints))
  end_below true e a b =
      let is_end : z +ℤ pos 1 ≡ pos n = omega (arith, ints) in
      let first : wrapped true n (z +ℤ pos 1) ≡ pos 0 = ap (wrapped true n) is_end ∙ wrapped_end n ∙ wrapped_inside true n 0 some in
      let zero : low ≡ pos 0 = omega (arith, ints, first) in
      let before : low -ℤ pos 1 ≡ negsuc 0 = omega (arith, ints) in
      let last : z ≡ pos n -ℤ pos 1 = omega (arith, ints) in
      ap (wrapped true n) before ∙ sym (wrapped_before n some) ∙ ap (wrapped true n) (sym last) ∙ wrapped_at true n z from to

  pub just_below : low ≤ℤ wrapped wrap n (z +ℤ pos 1) → wrapped wrap n (z +ℤ pos 1) ≤ℤ high → wrapped wrap n (low -ℤ pos 1) ≡ z
  just_below a b = cases (two_orders (pos n) (z +ℤ pos 1))
    where
      cases : (pos n ≤ℤ (z +ℤ pos 1)) ⊎ ((z +ℤ pos 1) <ℤ pos n) → wrapped wrap n (low -ℤ pos 1) ≡ z
      cases (inl e) = end_below wrap e a b
      cases (inr lt) =
          let next : wrapped wrap n (z +ℤ pos 1) ≡ z +ℤ pos 1 = wrapped_at wrap n (z +ℤ pos 1) (omega (arith, ints)) lt in
          let is : low -ℤ pos 1 ≡ z = step_below (subst (λ (w : ℤ). low ≤ℤ w) next a) (subst (λ (w : ℤ). w ≤ℤ high) next b) (two_orders low z) in
          ap (wrapped wrap n) is ∙ wrapped_at wrap n z from to

  step_above : low ≤ℤ (z -ℤ pos 1) → (z -ℤ pos 1) ≤ℤ high → (z ≤ℤ high) ⊎ (high <ℤ z) → high +ℤ pos 1 ≡ z
  step_above h k (inl le) = absurd (out (omega (arith, ints)) le)
  step_above h k (inr gt) = omega (arith, ints)

  end_above : (s : Bool) → (z -ℤ pos 1) <ℤ pos 0 → low ≤ℤ wrapped s n (z -ℤ pos 1) → wrapped s n (z -ℤ pos 1) ≤ℤ high → wrapped s n (high +ℤ pos 1) ≡ z
  end_above false e a b = absurd (omega (arith, ints))
  end_above true e a b =
      let is_start : z -ℤ pos 1 ≡ negsuc 0 = omega (arith, ints) in
      let before : pos 0 ≤ℤ (pos n -ℤ pos 1) = omega (arith, ints) in
      let last : wrapped true n (z -ℤ pos 1) ≡ pos n -ℤ pos 1 = ap (wrapped true n) is_start ∙ sym (wrapped_before n some) ∙ wrapped_at true n (pos n -ℤ pos 1) before (omega (arith, ints)) in
      let top : high +ℤ pos 1 ≡ pos n = omega (arith, ints, last) in
      let zero : pos 0 ≡ z = omega (arith, ints) in
      ap (wrapped true n) top ∙ wrapped_end n ∙ wrapped_inside true n 0 some ∙ zero

  pub just_above : low ≤ℤ wrapped wrap n (z -ℤ pos 1) → wrapped wrap n (z -ℤ pos 1) ≤ℤ high → wrapped wrap n (high +ℤ pos 1) ≡ z
  just_above a b = cases (two_orders (pos 0) (z -ℤ pos 1))
    where
      cases : (pos 0 ≤ℤ (z -ℤ pos 1)) ⊎ ((z -ℤ pos 1) <ℤ pos 0) → wrapped wrap n (high +ℤ pos 1) ≡ z
      cases (inr e) = end_above wrap e a b
      cases (inl le) =
          let next : wrapped wrap n (z -ℤ pos 1) ≡ z -ℤ pos 1 = wrapped_at wrap n (z -ℤ pos 1) le (omega (arith, ints)) in
          let is : high +ℤ pos 1 ≡ z = step_above (subst (λ (w : ℤ). low ≤ℤ w) next a) (subst (λ (w : ℤ). w ≤ℤ high) next b) (two_orders z high) in
          ap (wrapped wrap n) is ∙ wrapped_at wrap n z from to

-- ---- a cell beside a box

place_of : (b : ℤ) (z : ℤ) → b ≤ℤ z → (j : ℕ) × (b +ℤ pos j ≡ z)
place_of b z h = by_sign (z -ℤ b) (omega (arith, ints)) (omega (arith, ints))
  where
    by_sign : (w : ℤ) → w ≡ z -ℤ b → pos 0 ≤ℤ (z -ℤ b) → (j : ℕ) × (b +ℤ pos j ≡ z)
    by_sign (pos j) e k = (j, omega (arith, ints))
    by_sign (negsuc j) e k = absurd (omega (arith, ints))

-- a near box has so many rows and columns
pub record IsSized (d : Domain) (b : Extent) : Type 0 where
  pub west : pos 0 ≤ℤ b.lo.x
  pub east : b.hi.x <ℤ pos d.columns
  pub south : pos 0 ≤ℤ b.lo.y
  pub north : b.hi.y <ℤ pos d.rows
  pub wide : b.lo.x ≤ℤ b.hi.x
  pub high : b.lo.y ≤ℤ b.hi.y

below_size : (low high z : ℤ) (j : ℕ) → low +ℤ pos j ≡ z → z ≤ℤ high → j < at_least_zero (high +ℤ pos 1 -ℤ low)
below_size low high z j e h = by_sign (high +ℤ pos 1 -ℤ low) (omega (arith, ints))
  where
    by_sign : (w : ℤ) → pos (j + 1) ≤ℤ w → j < at_least_zero w
    by_sign (pos k) t = omega (arith, ints)
    by_sign (negsuc k) t = absurd (omega (arith, ints))

module _ (d : Domain) (test : Cell → Bool) (b : Extent) (q : Cell) (cs : List Cell) (size : HasSize d) (sized : IsSized d b) (inside_q : in_domain d q ≡ true) (out : holds b q ≡ true → ⊥) (around : FindsAround d test b cs) (passes : test q ≡ true) where
  w : IsWithinDomain d q
  w = within_domain d q inside_q

  out_x : b.lo.y ≤ℤ q.y → q.y ≤ℤ b.hi.y → b.lo.x ≤ℤ q.x → q.x ≤ℤ b.hi.x → ⊥
  out_x c e a f = out (is_inside b q (record { west = a; east = f; south = c; north = e }))

  same_x : wrapped d.wrap_x d.columns q.x ≡ q.x
  same_x = wrapped_at d.wrap_x d.columns q.x w.west w.east

  same_y : wrapped d.wrap_y d.rows q.y ≡ q.y
  same_y = wrapped_at d.wrap_y d.rows q.y w.south w.north

  found : (r : Cell) → home_cell d r ≡ q → (test (home_cell d r) ≡ true → Contains cs (home_cell d r)) → Contains cs q
  found r e f = subst (λ (c : Cell). Contains cs c) e (f (ap test e ∙ passes))

  plus_none : (z : ℤ) → z +ℤ pos 0 ≡ z
  plus_none z = omega (arith, ints)

  still_y : wrapped d.wrap_y d.rows (q.y +ℤ pos 0) ≡ q.y
  still_y = ap (wrapped d.wrap_y d.rows) (plus_none q.y) ∙ same_y

  still_x : wrapped d.wrap_x d.columns (q.x +ℤ pos 0) ≡ q.x
  still_x = ap (wrapped d.wrap_x d.columns) (plus_none q.x) ∙ same_x

  pub east_found : holds b (home_cell d (moved q (cell (pos 1) (pos 0)))) ≡ true → Contains cs q
  east_found e =
      let h = inside b _ e in
      let rows = (subst (λ (z : ℤ). b.lo.y ≤ℤ z) still_y h.south) in
      let rows' = (subst (λ (z : ℤ). z ≤ℤ b.hi.y) still_y h.north) in
      let j = place_of b.lo.y q.y rows in
      let x = just_below d.wrap_x d.columns b.lo.x b.hi.x q.x size.some_columns sized.west sized.east w.west w.east (out_x rows rows') h.west h.east in
      found (cell (b.lo.x -ℤ pos 1) (b.lo.y +ℤ pos j.0)) (same_cell x (ap (wrapped d.wrap_y d.rows) j.1 ∙ same_y)) (around.rows.left j.0 (below_size b.lo.y b.hi.y q.y j.0 j.1 rows'))

  pub west_found : holds b (home_cell d (moved q (cell (negsuc 0) (pos 0)))) ≡ true → Contains cs q
  west_found e =
      let h = inside b _ e in
      let rows = (subst (λ (z : ℤ). b.lo.y ≤ℤ z) still_y h.south) in
      let rows' = (subst (λ (z : ℤ). z ≤ℤ b.hi.y) still_y h.north) in
      let j = place_of b.lo.y q.y rows in
      let a = subst (λ (z : ℤ). b.lo.x ≤ℤ wrapped d.wrap_x d.columns z) (plus_minus_one q.x) h.west in
      let f = subst (λ (z : ℤ). wrapped d.wrap_x d.columns z ≤ℤ b.hi.x) (plus_minus_one q.x) h.east in
      let x = just_above d.wrap_x d.columns b.lo.x b.hi.x q.x size.some_columns sized.west sized.east w.west w.east (out_x rows rows') a f in
      found (cell (b.hi.x +ℤ pos 1) (b.lo.y +ℤ pos j.0)) (same_cell x (ap (wrapped d.wrap_y d.rows) j.1 ∙ same_y)) (around.rows.right j.0 (below_size b.lo.y b.hi.y q.y j.0 j.1 rows'))

  pub north_found : holds b (home_cell d (moved q (cell (pos 0) (pos 1)))) ≡ true → Contains cs q
  north_found e =
      let h = inside b _ e in
      let columns = (subst (λ (z : ℤ). b.lo.x ≤ℤ z) still_x h.west) in
      let columns' = (subst (λ (z : ℤ). z ≤ℤ b.hi.x) still_x h.east) in
      let i = place_of b.lo.x q.x columns in
      let y = just_below d.wrap_y d.rows b.lo.y b.hi.y q.y size.some_rows sized.south sized.north w.south w.north (λ c g. out_x c g columns columns') h.south h.north in
      found (cell (b.lo.x +ℤ pos i.0) (b.lo.y -ℤ pos 1)) (same_cell (ap (wrapped d.wrap_x d.columns) i.1 ∙ same_x) y) (around.columns.below i.0 (below_size b.lo.x b.hi.x q.x i.0 i.1 columns'))

  pub south_found : holds b (home_cell d (moved q (cell (pos 0) (negsuc 0)))) ≡ true → Contains cs q
  south_found e =
      let h = inside b _ e in
      let columns = (subst (λ (z : ℤ). b.lo.x ≤ℤ z) still_x h.west) in
      let columns' = (subst (λ (z : ℤ). z ≤ℤ b.hi.x) still_x h.east) in
      let i = place_of b.lo.x q.x columns in
      let a = subst (λ (z : ℤ). b.lo.y ≤ℤ wrapped d.wrap_y d.rows z) (plus_minus_one q.y) h.south in
      let f = subst (λ (z : ℤ). wrapped d.wrap_y d.rows z ≤ℤ b.hi.y) (plus_minus_one q.y) h.north in
      let y = just_above d.wrap_y d.rows b.lo.y b.hi.y q.y size.some_rows sized.south sized.north w.south w.north (λ c g. out_x c g columns columns') a f in
      found (cell (b.lo.x +ℤ pos i.0) (b.hi.y +ℤ pos 1)) (same_cell (ap (wrapped d.wrap_x d.columns) i.1 ∙ same_x) y) (around.columns.above i.0 (below_size b.lo.x b.hi.x q.x i.0 i.1 columns'))

-- ---- the boxes of a finer level

halves_low : (low z : ℤ) → low ≤ℤ (z +ℤ z) → half low ≤ℤ z
halves_low low z h = omega (arith, ints, half_and_odd low, odd_small low)

halves_high : (high z : ℤ) → (z +ℤ z) ≤ℤ high → z ≤ℤ half high
halves_high high z h = omega (arith, ints, half_and_odd high, odd_small high)

pub coarse_holds : (b : Extent) (c : Cell) → holds b (child_0 c) ≡ true → holds (parents_of b) c ≡ true
coarse_holds b c e =
    let h = inside b (child_0 c) e in
    is_inside (parents_of b) c (record { west = halves_low b.lo.x c.x h.west; east = halves_high b.hi.x c.x h.east; south = halves_low b.lo.y c.y h.south; north = halves_high b.hi.y c.y h.north })

-- and the other way round, of a box from even to odd coordinates
pub even_holds : (b : Extent) (c : Cell) → IsEven b → holds (parents_of b) c ≡ true → holds b (child_0 c) ≡ true
even_holds b c even h =
    let i = inside (parents_of b) c h in
    is_inside b (child_0 c) (record {
      west = omega (arith, ints, i.west, half_and_odd b.lo.x, even.0);
      east = omega (arith, ints, i.east, half_and_odd b.hi.x, even.2);
      south = omega (arith, ints, i.south, half_and_odd b.lo.y, even.1);
      north = omega (arith, ints, i.north, half_and_odd b.hi.y, even.3);
    })

-- a covered cell has all of its children, so that the first one tells
pub record HasFirstChildren (fine : Masses) : Type 0 where
  pub at : (c : Cell) → is_covered fine c ≡ is_some (fine (child_0 c))

pub first_tells : (fine : Masses) → HasAllChildren fine → HasFirstChildren fine
first_tells fine children = record { at = λ c. by_test c (is_covered fine c) refl }
  where
    by_test : (c : Cell) (t : Bool) → is_covered fine c ≡ t → is_covered fine c ≡ is_some (fine (child_0 c))
    by_test c true e = e ∙ sym (children.k0 c e)
    by_test c false e = e ∙ sym (ap is_some (no_children fine c e).k0)

module _ (p : Problem) (l : ℕ) (k fine : Level) (klevel : IsLevel p l k) (flevel : IsLevel p (suc l) fine) (nested : IsNestedLevel p l k fine) (few : l ≤ 3) where
  pub first_children : HasFirstChildren fine.masses
  first_children = first_tells fine.masses (children p l k fine klevel flevel nested)

  pub covered_in_domain : (c : Cell) → is_covered fine.masses c ≡ true → in_domain (domain p l) c ≡ true
  covered_in_domain c h = in_domain-yes p l c (covered_inside p l k fine klevel flevel nested c h)

  -- a covered cell lies in the parents of a box
  pub covering_box : (c : Cell) → is_covered fine.masses c ≡ true → Any (λ b. holds b (child_0 c) ≡ true) fine.boxes
  covering_box c h = Any-from_list_any (λ b. holds b (child_0 c)) fine.boxes (sym (flevel.filled (child_0 c)) ∙ sym (first_children.at c) ∙ h)

and_alike : (a b r : Bool) → (r ≡ true → a ≡ b) → (a && r) ≡ (b && r)
and_alike a b true h = ap (λ (t : Bool). t && true) (h refl)
and_alike true true false h = refl
and_alike true false false h = refl
and_alike false true false h = refl
and_alike false false false h = refl

sized_of : (d : Domain) (b : Extent) → IsProper b → IsInDomain d b → IsSized d b
sized_of d b proper within =
    let low = within_domain d b.lo (within.at b.lo (is_inside b b.lo (record { west = omega (arith, ints); east = proper.wide; south = omega (arith, ints); north = proper.high }))) in
    let high = within_domain d b.hi (within.at b.hi (is_inside b b.hi (record { west = proper.wide; east = omega (arith, ints); south = proper.high; north = omega (arith, ints) }))) in
    record { west = low.west; east = high.east; south = low.south; north = high.north; wide = proper.wide; high = proper.high }

-- a box in a domain is near
pub near_inside : (d : Domain) → HasSize d → (b : Extent) → IsProper b → IsInDomain d b → IsNear b
near_inside d size b proper within =
    let s = sized_of d b proper within in
    record {
      west = omega (arith, ints, s.west);
      east = omega (arith, ints, s.east, size.few_columns);
      south = omega (arith, ints, s.south);
      north = omega (arith, ints, s.north, size.few_rows);
      wide = proper.wide;
      high = proper.high;
    }

module _ (p : Problem) (l : ℕ) (k fine : Level) (klevel : IsLevel p l k) (flevel : IsLevel p (suc l) fine) (nested : IsNestedLevel p l k fine) (few : l ≤ 3) where
  size : HasSize (domain p l)
  size = size_at p l (omega arith)

  -- the parents of a box of the finer level are covered
  pub covered_parents : (n : ℕ) (b c0 : Extent) → n < length fine.boxes → IsBoxOf b (has_child_where (holds (slice_index_or fine.boxes n c0))) → (c : Cell) → holds b c ≡ true → is_covered fine.masses c ≡ true
  unfolding is_covered
  covered_parents n b c0 lt cells c h =
      has_child_more (holds (slice_index_or fine.boxes n c0)) (λ q. is_some (fine.masses q)) (λ q held. flevel.filled q ∙ list_any_at (λ e. holds e q) fine.boxes n c0 lt held) c (sym (cells.at c) ∙ h)

  pub parents_inside : (n : ℕ) (b c0 : Extent) → n < length fine.boxes → IsBoxOf b (has_child_where (holds (slice_index_or fine.boxes n c0))) → IsInDomain (domain p l) b
  parents_inside n b c0 lt cells = record { at = λ c h. covered_in_domain p l k fine klevel flevel nested few c (covered_parents n b c0 lt cells c h) }

  pub near_parents : (b : Extent) → IsProper b → IsInDomain (domain p l) b → IsNear b
  near_parents b proper within = near_inside (domain p l) size b proper within

  coarse_even : (n : ℕ) (c0 : Extent) → n < length fine.boxes → (c : Cell) → holds (parents_of (slice_index_or fine.boxes n c0)) c ≡ true → is_covered fine.masses c ≡ true
  coarse_even n c0 lt c h =
      let e = slice_index_or fine.boxes n c0 in
      let even = aligned_even p.blocking e p.limits.blocking_factor (nested.aligned n c0 lt) in
      let first : holds e (child_0 c) ≡ true = even_holds e c even h in
      (first_children p l k fine klevel flevel nested few).at c ∙ flevel.filled (child_0 c) ∙ list_any_at (λ b. holds b (child_0 c)) fine.boxes n c0 lt first

  module _ (test : Cell → Bool) (cs : List Cell) (done : BoxesDone (domain p l) test fine.boxes cs (length fine.boxes)) (q : Cell) (passes : is_register_cell (domain p l) k.masses fine.masses q ≡ true) (tested : test q ≡ true) where
    inside_q : in_domain (domain p l) q ≡ true
    inside_q = klevel.inside q (sym (klevel.filled q) ∙ of_level (domain p l) k.masses fine.masses q passes)

    -- beside the box that has a covered neighbour
    by_box : (o : Cell) → ((b : Extent) → IsSized (domain p l) b → (holds b q ≡ true → ⊥) → FindsAround (domain p l) test b cs → holds b (home_cell (domain p l) (moved q o)) ≡ true → Contains cs q) → is_covered fine.masses (home_cell (domain p l) (moved q o)) ≡ true → Contains cs q
    by_box o find h =
        let box = covering_box p l k fine klevel flevel nested few (home_cell (domain p l) (moved q o)) h in
        let n = box.0 in
        let b = box.1 in
        let is : slice_index_or fine.boxes n b ≡ b = box.3 in
        let proper : IsProper (slice_index_or fine.boxes n b) = flevel.proper n b box.2 in
        let proper_parents : IsProper (parents_of (slice_index_or fine.boxes n b)) = record { wide = half_order _ _ proper.wide; high = half_order _ _ proper.high } in
        let within : IsInDomain (domain p l) (parents_of (slice_index_or fine.boxes n b)) = record { at = λ c t. covered_in_domain p l k fine klevel flevel nested few c (coarse_even n b box.2 c t) } in
        find (parents_of (slice_index_or fine.boxes n b)) (sized_of (domain p l) _ proper_parents within)
        (λ t. none_covered (domain p l) k.masses fine.masses q (coarse_even n b box.2 q t) passes)
        (done.finds n b box.2 box.2)
        (coarse_holds (slice_index_or fine.boxes n b) (home_cell (domain p l) (moved q o)) (subst (λ (e : Extent). holds e (child_0 (home_cell (domain p l) (moved q o))) ≡ true) (sym is) box.4))

    by_neighbour : has_neighbour_where (domain p l) (is_covered fine.masses) q ≡ true → Contains cs q
    by_neighbour h = west (or_cases _ _ h)
      where
        north : (is_covered fine.masses (home_cell (domain p l) (moved q (cell (pos 0) (pos 1)))) ≡ true) ⊎ (false ≡ true) → Contains cs q
        north (inl e) = by_box (cell (pos 0) (pos 1)) (λ b s out around t. north_found (domain p l) _ b q cs size s inside_q out around tested t) e
        north (inr e) = absurd (cc)

        south : (is_covered fine.masses (home_cell (domain p l) (moved q (cell (pos 0) (negsuc 0)))) ≡ true) ⊎ ((is_covered fine.masses (home_cell (domain p l) (moved q (cell (pos 0) (pos 1)))) || false) ≡ true) → Contains cs q
        south (inl e) = by_box (cell (pos 0) (negsuc 0)) (λ b s out around t. south_found (domain p l) _ b q cs size s inside_q out around tested t) e
        south (inr e) = north (or_cases _ _ e)

        east : (is_covered fine.masses (home_cell (domain p l) (moved q (cell (pos 1) (pos 0)))) ≡ true) ⊎ ((is_covered fine.masses (home_cell (domain p l) (moved q (cell (pos 0) (negsuc 0)))) || (is_covered fine.masses (home_cell (domain p l) (moved q (cell (pos 0) (pos 1)))) || false)) ≡ true) → Contains cs q
        east (inl e) = by_box (cell (pos 1) (pos 0)) (λ b s out around t. east_found (domain p l) _ b q cs size s inside_q out around tested t) e
        east (inr e) = south (or_cases _ _ e)

        west : (is_covered fine.masses (home_cell (domain p l) (moved q (cell (negsuc 0) (pos 0)))) ≡ true) ⊎ ((is_covered fine.masses (home_cell (domain p l) (moved q (cell (pos 1) (pos 0)))) || (is_covered fine.masses (home_cell (domain p l) (moved q (cell (pos 0) (negsuc 0)))) || (is_covered fine.masses (home_cell (domain p l) (moved q (cell (pos 0) (pos 1)))) || false))) ≡ true) → Contains cs q
        west (inl e) = by_box (cell (negsuc 0) (pos 0)) (λ b s out around t. west_found (domain p l) _ b q cs size s inside_q out around tested t) e
        west (inr e) = east (or_cases _ _ e)

    pub all_found : Contains cs q
    all_found = by_neighbour (is_beside (domain p l) k.masses fine.masses q passes)

  -- ---- by nesting the level has each cell of its domain beside a covered one

  near_covered : (c : Cell) → has_neighbour_where (domain p l) (is_covered fine.masses) c ≡ true → is_near (domain p l) 1 (is_covered fine.masses) c ≡ true
  near_covered c h = west (or_cases _ _ h)
    where
      d : Domain
      d = domain p l

      test : Cell → Bool
      test = is_covered fine.masses

      north : (test (home_cell d (moved c (cell (pos 0) (pos 1)))) ≡ true) ⊎ (false ≡ true) → is_near d 1 test c ≡ true
      north (inl e) = near_north d test c e
      north (inr e) = absurd (cc)

      south : (test (home_cell d (moved c (cell (pos 0) (negsuc 0)))) ≡ true) ⊎ ((test (home_cell d (moved c (cell (pos 0) (pos 1)))) || false) ≡ true) → is_near d 1 test c ≡ true
      south (inl e) = near_south d test c e
      south (inr e) = north (or_cases _ _ e)

      east : (test (home_cell d (moved c (cell (pos 1) (pos 0)))) ≡ true) ⊎ ((test (home_cell d (moved c (cell (pos 0) (negsuc 0)))) || (test (home_cell d (moved c (cell (pos 0) (pos 1)))) || false)) ≡ true) → is_near d 1 test c ≡ true
      east (inl e) = near_east d test c e
      east (inr e) = south (or_cases _ _ e)

      west : (test (home_cell d (moved c (cell (negsuc 0) (pos 0)))) ≡ true) ⊎ ((test (home_cell d (moved c (cell (pos 1) (pos 0)))) || (test (home_cell d (moved c (cell (pos 0) (negsuc 0)))) || (test (home_cell d (moved c (cell (pos 0) (pos 1)))) || false))) ≡ true) → is_near d 1 test c ≡ true
      west (inl e) = near_west d test c e
      west (inr e) = east (or_cases _ _ e)

  same_test : (c : Cell) → stands_beside (domain p l) (is_covered fine.masses) c ≡ is_register_cell (domain p l) k.masses fine.masses c
  unfolding stands_beside is_register_cell
  same_test c =
      and_alike (in_domain (domain p l) c) (is_some (k.masses c)) _ (λ rest. both_ways (in_domain (domain p l) c) (is_some (k.masses c))
      (λ inside. of_coarse p l k fine klevel flevel nested c inside (near_covered c (and_parts (not (is_covered fine.masses c)) _ rest).1))
      (λ some. klevel.inside c (sym (klevel.filled c) ∙ some)))

  -- so the cells that stand beside covered ones are the register cells
  pub stand_beside : (covered : Cell → Bool) → ((c : Cell) → covered c ≡ is_covered fine.masses c) → stands_beside (domain p l) covered ≡ is_register_cell (domain p l) k.masses fine.masses
  stand_beside covered same = ap (stands_beside (domain p l)) (λ i c. same c i) ∙ (λ i c. same_test c i)
