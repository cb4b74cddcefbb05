-- The faces on the edges of a box, side by side.
use Rattle.std.proofs.Common.{◌≡◌, ℕ, ◌+◌, ◌-◌, ◌*◌, ◌/◌, ◌^◌, ◌<◌, ◌≤◌, ◌⊎◌, inl, inr, Bool, true, false, cond, ℤ, pos, ◌+ℤ◌, ◌≤ℤ◌, ◌<ℤ◌, sym, ap, subst, ◌∙◌, arith}
use Rattle.std.specs.Prelude.{nat_lt}
use Rattle.std.proofs.lemmas.Int.{ints}
use Rattle.std.proofs.lemmas.Bool.{cases_lt, lt-ltb, le-ltb}
use Rattle.amr_box.specs.declared.Face.{Face}
use Rattle.amr_box.specs.declared.Axis.{Axis}
use Rattle.amr_box.specs.declared.Axis.TheVariants.{X, Y}
use Rattle.amr_box.specs.Cells.{Extent, IsNear, height, holds, width}
use Rattle.amr_def.specs.declared.problem.Problem.{Problem}
use Rattle.amr_def.specs.Domain.{columns, domain, is_periodic, rows, wrapped}
use Rattle.amr_def.specs.Flux.{at_base, courant, face, high_cell, low_cell, number_for}
use Rattle.amr_def.proofs.Nesting.{in_domain-inside, test_inside}
use Rattle.amr_def.proofs.Flows.{wrapped_inside}
use Rattle.amr_def.proofs.Uncovered.{inside_test}
use Rattle.amr_patch.proofs.Rows.{is_inside as is_in, sides}
use Rattle.amr_faces.specs.Faces.{IsInDomain, x_end, y_end}
use Rattle.amr_layout.specs.Surroundings.{IsInRowOrColumn, IsNearFace, IsReachable, edge_count, edge_face, inside, x_start, y_start}

-- ---- which side a face lies on

pick_1 : (s t u : Bool) (a b c d : Face) → s ≡ true → cond s a (cond t b (cond u c d)) ≡ a
pick_1 s t u a b c d e = ap (λ v. cond v a (cond t b (cond u c d))) e

pick_2 : (s t u : Bool) (a b c d : Face) → s ≡ false → t ≡ true → cond s a (cond t b (cond u c d)) ≡ b
pick_2 s t u a b c d e f = ap (λ v. cond v a (cond t b (cond u c d))) e ∙ ap (λ v. cond v b (cond u c d)) f

pick_3 : (s t u : Bool) (a b c d : Face) → s ≡ false → t ≡ false → u ≡ true → cond s a (cond t b (cond u c d)) ≡ c
pick_3 s t u a b c d e f g = ap (λ v. cond v a (cond t b (cond u c d))) e ∙ ap (λ v. cond v b (cond u c d)) f ∙ ap (λ v. cond v c d) g

pick_4 : (s t u : Bool) (a b c d : Face) → s ≡ false → t ≡ false → u ≡ false → cond s a (cond t b (cond u c d)) ≡ d
pick_4 s t u a b c d e f g = ap (λ v. cond v a (cond t b (cond u c d))) e ∙ ap (λ v. cond v b (cond u c d)) f ∙ ap (λ v. cond v c d) g

module _ (b : Extent) (n : ℕ) where
  pub edge_west : n < height b → edge_face b n ≡ x_start b n
  unfolding edge_face
  edge_west h =
      pick_1 (nat_lt n (height b)) (nat_lt n (2 * height b)) (nat_lt n (2 * height b + width b)) (x_start b n) (x_end b (n - height b)) (y_start b (n - 2 * height b)) (y_end b (n - (2 * height b + width b)))
      (lt-ltb n (height b) h)

  pub edge_east : height b ≤ n → n < 2 * height b → edge_face b n ≡ x_end b (n - height b)
  unfolding edge_face
  edge_east h k =
      pick_2 (nat_lt n (height b)) (nat_lt n (2 * height b)) (nat_lt n (2 * height b + width b)) (x_start b n) (x_end b (n - height b)) (y_start b (n - 2 * height b)) (y_end b (n - (2 * height b + width b)))
      (le-ltb n (height b) h) (lt-ltb n (2 * height b) k)

  pub edge_south : 2 * height b ≤ n → n < 2 * height b + width b → edge_face b n ≡ y_start b (n - 2 * height b)
  unfolding edge_face
  edge_south h k =
      pick_3 (nat_lt n (height b)) (nat_lt n (2 * height b)) (nat_lt n (2 * height b + width b)) (x_start b n) (x_end b (n - height b)) (y_start b (n - 2 * height b)) (y_end b (n - (2 * height b + width b)))
      (le-ltb n (height b) (omega arith)) (le-ltb n (2 * height b) h) (lt-ltb n (2 * height b + width b) k)

  pub edge_north : 2 * height b + width b ≤ n → edge_face b n ≡ y_end b (n - (2 * height b + width b))
  unfolding edge_face
  edge_north h =
      pick_4 (nat_lt n (height b)) (nat_lt n (2 * height b)) (nat_lt n (2 * height b + width b)) (x_start b n) (x_end b (n - height b)) (y_start b (n - 2 * height b)) (y_end b (n - (2 * height b + width b)))
      (le-ltb n (height b) (omega arith)) (le-ltb n (2 * height b) (omega arith)) (le-ltb n (2 * height b + width b) h)

  -- what holds of the faces of each side holds of each
  pub on_each_side : (P : Face → Type 0) → ((j : ℕ) → j < height b → P (x_start b j)) → ((j : ℕ) → j < height b → P (x_end b j)) → ((i : ℕ) → i < width b → P (y_start b i)) → ((i : ℕ) → i < width b → P (y_end b i)) → n < edge_count b → P (edge_face b n)
  on_each_side P west east south north there = from (cases_lt n (height b)) (cases_lt n (2 * height b)) (cases_lt n (2 * height b + width b))
    where
      from : ((n < height b) ⊎ (height b ≤ n)) → ((n < 2 * height b) ⊎ (2 * height b ≤ n)) → ((n < 2 * height b + width b) ⊎ (2 * height b + width b ≤ n)) → P (edge_face b n)
      from (inl h) k m = subst P (sym (edge_west h)) (west n h)
      from (inr h) (inl k) m = subst P (sym (edge_east h k)) (east (n - height b) (omega arith))
      from (inr h) (inr k) (inl m) = subst P (sym (edge_south k m)) (south (n - 2 * height b) (omega arith))
      from (inr h) (inr k) (inr m) = subst P (sym (edge_north m)) (north (n - (2 * height b + width b)) (omega arith))

-- ---- coordinates

pub edge_near : (b : Extent) (n : ℕ) → IsNear b → n < edge_count b → IsNearFace (edge_face b n)
edge_near b n near there =
    let s = sides b near in
    on_each_side b n IsNearFace
    (λ j h. record { west = near.west; east = omega (arith, ints, near.wide, near.east); south = omega (arith, ints, near.south); north = omega (arith, ints, near.north, s.high, h) })
    (λ j h. record { west = omega (arith, ints, near.wide, near.west); east = omega (arith, ints, near.east); south = omega (arith, ints, near.south); north = omega (arith, ints, near.north, s.high, h) })
    (λ i h. record { west = omega (arith, ints, near.west); east = omega (arith, ints, near.east, s.wide, h); south = near.south; north = omega (arith, ints, near.high, near.north) })
    (λ i h. record { west = omega (arith, ints, near.west); east = omega (arith, ints, near.east, s.wide, h); south = omega (arith, ints, near.high, near.south); north = omega (arith, ints, near.north) })
    there

pub edge_in_level : (p : Problem) (l : ℕ) (b : Extent) (n : ℕ) → IsNear b → IsInDomain (domain p l) b → n < edge_count b → IsInRowOrColumn p l (edge_face b n)
edge_in_level p l b n near lies there =
    let s = sides b near in
    let low = in_domain-inside p l b.lo (lies.at b.lo (is_in b b.lo (record { west = omega (arith, ints); east = near.wide; south = omega (arith, ints); north = near.high }))) in
    let high = in_domain-inside p l b.hi (lies.at b.hi (is_in b b.hi (record { west = near.wide; east = omega (arith, ints); south = near.high; north = omega (arith, ints) }))) in
    on_each_side b n (IsInRowOrColumn p l)
    (λ j h. inside_test (rows p l) (b.lo.y +ℤ pos j) (omega (arith, ints, low.south)) (omega (arith, ints, high.north, s.high, h)))
    (λ j h. inside_test (rows p l) (b.lo.y +ℤ pos j) (omega (arith, ints, low.south)) (omega (arith, ints, high.north, s.high, h)))
    (λ i h. inside_test (columns p l) (b.lo.x +ℤ pos i) (omega (arith, ints, low.west)) (omega (arith, ints, high.east, s.wide, h)))
    (λ i h. inside_test (columns p l) (b.lo.x +ℤ pos i) (omega (arith, ints, low.west)) (omega (arith, ints, high.east, s.wide, h)))
    there

-- ---- the cells beside a face

low_reachable : (a : Axis) (x y : ℤ) → IsNearFace (face a x y) → IsReachable (low_cell (face a x y))
low_reachable X x y near = record { west = omega (arith, ints, near.west); east = omega (arith, ints, near.east); south = omega (arith, ints, near.south); north = omega (arith, ints, near.north) }
low_reachable Y x y near = record { west = omega (arith, ints, near.west); east = omega (arith, ints, near.east); south = omega (arith, ints, near.south); north = omega (arith, ints, near.north) }

high_reachable : (f : Face) → IsNearFace f → IsReachable (high_cell f)
high_reachable f near = record { west = omega (arith, ints, near.west); east = omega (arith, ints, near.east); south = omega (arith, ints, near.south); north = omega (arith, ints, near.north) }

pub inside_reachable : (b : Extent) (f : Face) → IsNearFace f → IsReachable (inside b f)
inside_reachable b f near = by_side (holds b (high_cell f))
  where
    by_side : (t : Bool) → IsReachable (cond t (high_cell f) (low_cell f))
    by_side true = high_reachable f near
    by_side false = low_reachable f.axis f.x f.y near

-- ---- Courant numbers

pub in_rows : (p : Problem) (l : ℕ) (f : Face) → f.axis ≡ X → IsInRowOrColumn p l f → (pos 0 ≤ℤ f.y) × (f.y <ℤ pos (rows p l))
in_rows p l f e h = test_inside (rows p l) f.y (subst (λ (a : Axis). IsInRowOrColumn p l (face a f.x f.y)) e h)

pub in_columns : (p : Problem) (l : ℕ) (f : Face) → f.axis ≡ Y → IsInRowOrColumn p l f → (pos 0 ≤ℤ f.x) × (f.x <ℤ pos (columns p l))
in_columns p l f e h = test_inside (columns p l) f.x (subst (λ (a : Axis). IsInRowOrColumn p l (face a f.x f.y)) e h)

pub x_courant_is : (p : Problem) (l : ℕ) (f : Face) (row : ℕ) → f.axis ≡ X → pos row ≡ f.y → row < rows p l → number_for p.cx p.shear_x (row / 2 ^ l) ≡ courant p l f
unfolding courant
x_courant_is p l f row e is below =
    let number : ℤ → ℤ = λ z. number_for p.cx p.shear_x (at_base l z) in
    sym (ap (λ (a : Axis). courant p l (face a f.x f.y)) e ∙ ap (λ z. number (wrapped (is_periodic p.y_sides) (rows p l) z)) (sym is) ∙ ap number (wrapped_inside (is_periodic p.y_sides) (rows p l) row below))

pub y_courant_is : (p : Problem) (l : ℕ) (f : Face) (column : ℕ) → f.axis ≡ Y → pos column ≡ f.x → column < columns p l → number_for p.cy p.shear_y (column / 2 ^ l) ≡ courant p l f
unfolding courant
y_courant_is p l f column e is below =
    let number : ℤ → ℤ = λ z. number_for p.cy p.shear_y (at_base l z) in
    sym (ap (λ (a : Axis). courant p l (face a f.x f.y)) e ∙ ap (λ z. number (wrapped (is_periodic p.x_sides) (columns p l) z)) (sym is) ∙ ap number (wrapped_inside (is_periodic p.x_sides) (columns p l) column below))
