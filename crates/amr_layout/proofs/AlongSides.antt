-- The faces along a side of a box, one after another, and the cells beside them.
use Rattle.std.proofs.Common.{◌≡◌, ℕ, ◌+◌, ◌-◌, ◌*◌, ◌<◌, ◌≤◌, ◌⊎◌, inl, inr, Bool, true, false, ◌&&◌, cond, ℤ, pos, ◌+ℤ◌, ◌-ℤ◌, ◌≤ℤ◌, List, length, refl, sym, ap, subst, ◌∙◌, arith}
use Rattle.std.specs.Prelude.{not, slice_index_or}
use Rattle.std.proofs.lemmas.Int.{ints}
use Rattle.std.proofs.lemmas.Bool.{and_from, and_parts, and_right, cases_lt, not_from_true}
use Rattle.amr_box.specs.declared.Cell.{Cell}
use Rattle.amr_box.specs.declared.Face.{Face}
use Rattle.amr_box.specs.declared.Axis.{Axis}
use Rattle.amr_box.specs.declared.Axis.TheVariants.{X, Y}
use Rattle.amr_box.specs.Cells.{Extent, IsNear, cell, height, holds, width, within}
use Rattle.amr_box.proofs.Numbers.{is_between}
use Rattle.amr_def.specs.Domain.{Domain, home_cell, in_domain, is_inside, wrapped}
use Rattle.amr_def.specs.Flux.{face}
use Rattle.amr_def.proofs.Homes.{inside-itself}
use Rattle.amr_patch.specs.declared.patches.Patch.{Patch}
use Rattle.amr_patch.specs.Patches.{box, in_patches}
use Rattle.amr_patch.proofs.Lookups.{holder, in_one}
use Rattle.amr_patch.proofs.Rows.{HasSides, inside, is_inside as is_in, sides}
use Rattle.amr_faces.specs.Faces.{IsInDomain, x_end, y_end}
use Rattle.amr_layout.specs.Surroundings.{Around, LiesBesideLevel, domain_around, edge_count, edge_face, is_coarse_fine, is_open, outside, x_start, y_start}
use Rattle.amr_layout.proofs.Edges.{edge_east, edge_north, edge_south, edge_west, on_each_side}

-- ---- the faces of a side

-- k faces further along the rows, or along the columns
record IsFurther (b : Extent) (n : ℕ) (g : Face) (low z : ℤ) : Type 0 where
  pub there : n < edge_count b
  pub next : edge_face b n ≡ g
  pub from : low ≤ℤ z

not_both : {P : Type 0} → X ≡ Y → P
not_both e = cc

module _ (b : Extent) (near : IsNear b) (n k : ℕ) (f : Face) (e : edge_face b n ≡ f) where
  x_further : f.axis ≡ X → (f.y +ℤ pos k) ≤ℤ b.hi.y → IsFurther b (n + k) (face X f.x (f.y +ℤ pos k)) b.lo.y f.y
  x_further along fits = from (cases_lt n (height b)) (cases_lt n (2 * height b)) (cases_lt n (2 * height b + width b))
    where
      s : HasSides b
      s = sides b near

      joined : (g : Face) (x : ℤ) (j : ℕ) → edge_face b (n + k) ≡ face X x (b.lo.y +ℤ pos j) → f.x ≡ x → b.lo.y +ℤ pos j ≡ f.y +ℤ pos k → edge_face b (n + k) ≡ face X f.x (f.y +ℤ pos k)
      joined g x j h ex ey = h ∙ ap (λ (z : ℤ). face X z (b.lo.y +ℤ pos j)) (sym ex) ∙ ap (face X f.x) ey

      from : ((n < height b) ⊎ (height b ≤ n)) → ((n < 2 * height b) ⊎ (2 * height b ≤ n)) → ((n < 2 * height b + width b) ⊎ (2 * height b + width b ≤ n)) → IsFurther b (n + k) (face X f.x (f.y +ℤ pos k)) b.lo.y f.y
      from (inl h) i j =
          let at : f ≡ x_start b n = sym e ∙ edge_west b n h in
          let row : f.y ≡ b.lo.y +ℤ pos n = ap (λ (g : Face). g.y) at in
          let still : n + k < height b = omega (arith, ints, s.high, row, fits) in
          let same : b.lo.y +ℤ pos (n + k) ≡ f.y +ℤ pos k = omega (arith, ints, row) in
          record { there = omega arith; next = joined f b.lo.x (n + k) (edge_west b (n + k) still) (ap (λ (g : Face). g.x) at) same; from = omega (arith, ints, row) }
      from (inr h) (inl i) j =
          let at : f ≡ x_end b (n - height b) = sym e ∙ edge_east b n h i in
          let row : f.y ≡ b.lo.y +ℤ pos (n - height b) = ap (λ (g : Face). g.y) at in
          let still : n + k < 2 * height b = omega (arith, ints, s.high, row, fits, h) in
          let same : b.lo.y +ℤ pos (n + k - height b) ≡ f.y +ℤ pos k = omega (arith, ints, row, h) in
          record { there = omega arith; next = joined f (b.hi.x +ℤ pos 1) (n + k - height b) (edge_east b (n + k) (omega arith) still) (ap (λ (g : Face). g.x) at) same; from = omega (arith, ints, row) }
      from (inr h) (inr i) (inl j) = not_both (sym along ∙ ap (λ (g : Face). g.axis) (sym e ∙ edge_south b n i j))
      from (inr h) (inr i) (inr j) = not_both (sym along ∙ ap (λ (g : Face). g.axis) (sym e ∙ edge_north b n j))

  y_further : f.axis ≡ Y → (f.x +ℤ pos k) ≤ℤ b.hi.x → IsFurther b (n + k) (face Y (f.x +ℤ pos k) f.y) b.lo.x f.x
  y_further along fits = from (cases_lt n (height b)) (cases_lt n (2 * height b)) (cases_lt n (2 * height b + width b))
    where
      s : HasSides b
      s = sides b near

      joined : (y : ℤ) (j : ℕ) → edge_face b (n + k) ≡ face Y (b.lo.x +ℤ pos j) y → f.y ≡ y → b.lo.x +ℤ pos j ≡ f.x +ℤ pos k → edge_face b (n + k) ≡ face Y (f.x +ℤ pos k) f.y
      joined y j h ey ex = h ∙ ap (face Y (b.lo.x +ℤ pos j)) (sym ey) ∙ ap (λ (z : ℤ). face Y z f.y) ex

      from : ((n < height b) ⊎ (height b ≤ n)) → ((n < 2 * height b) ⊎ (2 * height b ≤ n)) → ((n < 2 * height b + width b) ⊎ (2 * height b + width b ≤ n)) → IsFurther b (n + k) (face Y (f.x +ℤ pos k) f.y) b.lo.x f.x
      from (inl h) i j = not_both (sym (ap (λ (g : Face). g.axis) (sym e ∙ edge_west b n h)) ∙ along)
      from (inr h) (inl i) j = not_both (sym (ap (λ (g : Face). g.axis) (sym e ∙ edge_east b n h i)) ∙ along)
      from (inr h) (inr i) (inl j) =
          let at : f ≡ y_start b (n - 2 * height b) = sym e ∙ edge_south b n i j in
          let column : f.x ≡ b.lo.x +ℤ pos (n - 2 * height b) = ap (λ (g : Face). g.x) at in
          let still : n + k < 2 * height b + width b = omega (arith, ints, s.wide, column, fits, i) in
          let same : b.lo.x +ℤ pos (n + k - 2 * height b) ≡ f.x +ℤ pos k = omega (arith, ints, column, i) in
          record { there = omega arith; next = joined b.lo.y (n + k - 2 * height b) (edge_south b (n + k) (omega arith) still) (ap (λ (g : Face). g.y) at) same; from = omega (arith, ints, column) }
      from (inr h) (inr i) (inr j) =
          let at : f ≡ y_end b (n - (2 * height b + width b)) = sym e ∙ edge_north b n j in
          let column : f.x ≡ b.lo.x +ℤ pos (n - (2 * height b + width b)) = ap (λ (g : Face). g.x) at in
          let same : b.lo.x +ℤ pos (n + k - (2 * height b + width b)) ≡ f.x +ℤ pos k = omega (arith, ints, column, j) in
          record { there = omega (arith, ints, s.wide, column, fits, j); next = joined (b.hi.y +ℤ pos 1) (n + k - (2 * height b + width b)) (edge_north b (n + k) (omega arith)) (ap (λ (g : Face). g.y) at) same; from = omega (arith, ints, column) }

-- a face of a side lies beside the box
module _ (b : Extent) (near : IsNear b) (n : ℕ) (there : n < edge_count b) (f : Face) (e : edge_face b n ≡ f) where
  s : HasSides b
  s = sides b near

  pub x_within : f.axis ≡ X → f.y ≤ℤ b.hi.y
  x_within along =
      subst (λ (g : Face). g.axis ≡ X → g.y ≤ℤ b.hi.y) e
      (on_each_side b n (λ (g : Face). g.axis ≡ X → g.y ≤ℤ b.hi.y) (λ j h i. omega (arith, ints, s.high, h)) (λ j h i. omega (arith, ints, s.high, h)) (λ j h i. not_both (sym i)) (λ j h i. not_both (sym i)) there)
      along

  pub y_within : f.axis ≡ Y → f.x ≤ℤ b.hi.x
  y_within along =
      subst (λ (g : Face). g.axis ≡ Y → g.x ≤ℤ b.hi.x) e
      (on_each_side b n (λ (g : Face). g.axis ≡ Y → g.x ≤ℤ b.hi.x) (λ j h i. not_both i) (λ j h i. not_both i) (λ j h i. omega (arith, ints, s.wide, h)) (λ j h i. omega (arith, ints, s.wide, h)) there)
      along

-- ---- the cells on their other side

picked : (t : Bool) (u v w x : ℤ) → cond t (cell u w) (cell v w) ≡ cell (cond t (cell u x) (cell v x)).x w
picked true u v w x = refl
picked false u v w x = refl

same_row : (t : Bool) (u v w : ℤ) → (cond t (cell u w) (cell v w)).y ≡ w
same_row true u v w = refl
same_row false u v w = refl

picked_up : (t : Bool) (u v w x : ℤ) → cond t (cell w u) (cell w v) ≡ cell w (cond t (cell x u) (cell x v)).y
picked_up true u v w x = refl
picked_up false u v w x = refl

same_column : (t : Bool) (u v w : ℤ) → (cond t (cell w u) (cell w v)).x ≡ w
same_column true u v w = refl
same_column false u v w = refl

module _ (b : Extent) (x y z : ℤ) where
  outside_x : b.lo.y ≤ℤ y → y ≤ℤ z → z ≤ℤ b.hi.y → outside b (face X x z) ≡ cell (outside b (face X x y)).x z
  outside_x from up to =
      let holds_both : (within b.lo.x b.hi.x x && within b.lo.y b.hi.y z) ≡ (within b.lo.x b.hi.x x && within b.lo.y b.hi.y y) =
      ap (λ t. within b.lo.x b.hi.x x && t) (is_between b.lo.y b.hi.y z (omega (arith, ints)) to ∙ sym (is_between b.lo.y b.hi.y y from (omega (arith, ints)))) in
      ap (λ t. cond t (cell (x -ℤ pos 1) z) (cell x z)) holds_both ∙ picked (within b.lo.x b.hi.x x && within b.lo.y b.hi.y y) (x -ℤ pos 1) x z y

  outside_y : b.lo.x ≤ℤ x → x ≤ℤ z → z ≤ℤ b.hi.x → outside b (face Y z y) ≡ cell z (outside b (face Y x y)).y
  outside_y from up to =
      let holds_both : (within b.lo.x b.hi.x z && within b.lo.y b.hi.y y) ≡ (within b.lo.x b.hi.x x && within b.lo.y b.hi.y y) =
      ap (λ t. t && within b.lo.y b.hi.y y) (is_between b.lo.x b.hi.x z (omega (arith, ints)) to ∙ sym (is_between b.lo.x b.hi.x x from (omega (arith, ints)))) in
      ap (λ t. cond t (cell z (y -ℤ pos 1)) (cell z y)) holds_both ∙ picked_up (within b.lo.x b.hi.x x && within b.lo.y b.hi.y y) (y -ℤ pos 1) y z x

-- ---- cells of the domain

module _ (s : Around) (b : Extent) (lies : IsInDomain (domain_around s) b) (f : Face) where
  beside_level : in_domain (domain_around s) (home_cell (domain_around s) (outside b f)) ≡ true → in_patches s.whole (home_cell (domain_around s) (outside b f)) ≡ true → LiesBesideLevel s b f
  unfolding is_open is_coarse_fine
  beside_level h p = record {
    not_open = not_from_true (in_domain (domain_around s) (home_cell (domain_around s) (outside b f))) h;
    not_coarse_fine = and_right (in_domain (domain_around s) (home_cell (domain_around s) (outside b f))) (not (in_patches s.whole (home_cell (domain_around s) (outside b f)))) (not_from_true (in_patches s.whole (home_cell (domain_around s) (outside b f))) p);
  }

tests : (d : Domain) (c : Cell) → in_domain d c ≡ true → (is_inside d.columns c.x ≡ true) × (is_inside d.rows c.y ≡ true)
unfolding in_domain
tests d c h = and_parts (is_inside d.columns c.x) (is_inside d.rows c.y) h

passed : (d : Domain) (c : Cell) → is_inside d.columns c.x ≡ true → is_inside d.rows c.y ≡ true → in_domain d c ≡ true
unfolding in_domain
passed d c x y = and_from (is_inside d.columns c.x) (is_inside d.rows c.y) x y

-- a cell in the box of a patch is one of the level
pub of_patch : (ps : List Patch) (c : Cell) (i : ℕ) (p : Patch) (q : Extent) → i < length ps → p ≡ slice_index_or ps i p → q ≡ box (slice_index_or ps i p) → holds q c ≡ true → in_patches ps c ≡ true
of_patch ps c i p q lt e is h = in_one ps c i (holder ps c i p lt e (ap (λ (r : Patch). holds (box r) c) e ∙ ap (λ (b : Extent). holds b c) (sym is) ∙ h))

-- ---- all together

module _ (s : Around) (b q : Extent) (near : IsNear b) (lies : IsInDomain (domain_around s) b) (n k : ℕ) (f : Face) (h : Cell)
    (e : edge_face b n ≡ f) (home : h ≡ home_cell (domain_around s) (outside b f)) (there : in_domain (domain_around s) h ≡ true) (held : holds q h ≡ true)
    (in_q : (c : Cell) → holds q c ≡ true → in_patches s.whole c ≡ true) where
  abbrev d : Domain
  d = domain_around s

  pub x_beside : f.axis ≡ X → (f.y +ℤ pos k) ≤ℤ b.hi.y → (h.y +ℤ pos k) ≤ℤ q.hi.y → (n + k < edge_count b) × LiesBesideLevel s b (edge_face b (n + k))
  x_beside along fits reach =
      let g = x_further b near n k f e along fits in
      let z : ℤ = f.y +ℤ pos k in
      let row : f.y ≤ℤ z = omega (arith, ints) in
      let is : f ≡ face X f.x f.y = ap (λ (a : Axis). face a f.x f.y) along in
      let inside_row : is_inside d.rows z ≡ true = (tests d (cell b.lo.x z) (lies.at (cell b.lo.x z) (is_in b (cell b.lo.x z) (record { west = omega (arith, ints); east = near.wide; south = omega (arith, ints, g.from); north = fits })))).1 in
      let first_row : is_inside d.rows f.y ≡ true = (tests d (cell b.lo.x f.y) (lies.at (cell b.lo.x f.y) (is_in b (cell b.lo.x f.y) (record { west = omega (arith, ints); east = near.wide; south = g.from; north = omega (arith, ints, fits) })))).1 in
      let out : outside b (edge_face b (n + k)) ≡ cell (outside b f).x z = ap (outside b) g.next ∙ outside_x b f.x f.y z g.from row fits ∙ ap (λ (v : Face). cell (outside b v).x z) (sym is) in
      let here : (outside b f).y ≡ f.y = ap (λ (v : Face). (outside b v).y) is ∙ same_row (holds b (cell f.x f.y)) (f.x -ℤ pos 1) f.x f.y in
      let level : h.y ≡ f.y = ap (λ (c : Cell). c.y) home ∙ ap (wrapped d.wrap_y d.rows) here ∙ inside-itself d.wrap_y d.rows f.y first_row in
      let column : h.x ≡ wrapped d.wrap_x d.columns (outside b f).x = ap (λ (c : Cell). c.x) home in
      let at : home_cell d (outside b (edge_face b (n + k))) ≡ cell h.x z =
      ap (home_cell d) out ∙ ap (λ (y : ℤ). cell (wrapped d.wrap_x d.columns (outside b f).x) y) (inside-itself d.wrap_y d.rows z inside_row) ∙ ap (λ (x : ℤ). cell x z) (sym column) in
      let i = inside q h held in
      let inner : holds q (cell h.x z) ≡ true = is_in q (cell h.x z) (record { west = i.west; east = i.east; south = omega (arith, ints, i.south, level); north = omega (arith, ints, reach, level) }) in
      (g.there, beside_level s b lies (edge_face b (n + k)) (ap (in_domain d) at ∙ passed d (cell h.x z) (tests d h there).0 inside_row) (ap (in_patches s.whole) at ∙ in_q (cell h.x z) inner))

  pub y_beside : f.axis ≡ Y → (f.x +ℤ pos k) ≤ℤ b.hi.x → (h.x +ℤ pos k) ≤ℤ q.hi.x → (n + k < edge_count b) × LiesBesideLevel s b (edge_face b (n + k))
  y_beside along fits reach =
      let g = y_further b near n k f e along fits in
      let z : ℤ = f.x +ℤ pos k in
      let column : f.x ≤ℤ z = omega (arith, ints) in
      let is : f ≡ face Y f.x f.y = ap (λ (a : Axis). face a f.x f.y) along in
      let inside_column : is_inside d.columns z ≡ true = (tests d (cell z b.lo.y) (lies.at (cell z b.lo.y) (is_in b (cell z b.lo.y) (record { west = omega (arith, ints, g.from); east = fits; south = omega (arith, ints); north = near.high })))).0 in
      let first_column : is_inside d.columns f.x ≡ true = (tests d (cell f.x b.lo.y) (lies.at (cell f.x b.lo.y) (is_in b (cell f.x b.lo.y) (record { west = g.from; east = omega (arith, ints, fits); south = omega (arith, ints); north = near.high })))).0 in
      let out : outside b (edge_face b (n + k)) ≡ cell z (outside b f).y = ap (outside b) g.next ∙ outside_y b f.x f.y z g.from column fits ∙ ap (λ (v : Face). cell z (outside b v).y) (sym is) in
      let here : (outside b f).x ≡ f.x = ap (λ (v : Face). (outside b v).x) is ∙ same_column (holds b (cell f.x f.y)) (f.y -ℤ pos 1) f.y f.x in
      let level : h.x ≡ f.x = ap (λ (c : Cell). c.x) home ∙ ap (wrapped d.wrap_x d.columns) here ∙ inside-itself d.wrap_x d.columns f.x first_column in
      let row : h.y ≡ wrapped d.wrap_y d.rows (outside b f).y = ap (λ (c : Cell). c.y) home in
      let at : home_cell d (outside b (edge_face b (n + k))) ≡ cell z h.y =
      ap (home_cell d) out ∙ ap (λ (x : ℤ). cell x (wrapped d.wrap_y d.rows (outside b f).y)) (inside-itself d.wrap_x d.columns z inside_column) ∙ ap (cell z) (sym row) in
      let i = inside q h held in
      let inner : holds q (cell z h.y) ≡ true = is_in q (cell z h.y) (record { west = omega (arith, ints, i.west, level); east = omega (arith, ints, reach, level); south = i.south; north = i.north }) in
      (g.there, beside_level s b lies (edge_face b (n + k)) (ap (in_domain d) at ∙ passed d (cell z h.y) inside_column (tests d h there).1) (ap (in_patches s.whole) at ∙ in_q (cell z h.y) inner))

  pub x_stretch : f.axis ≡ X → (f.y +ℤ pos k) ≤ℤ b.hi.y → (h.y +ℤ pos k) ≤ℤ q.hi.y → (m : ℕ) → n ≤ m → m ≡ n + k → LiesBesideLevel s b (edge_face b m)
  x_stretch along fits reach m from is = subst (λ (i : ℕ). LiesBesideLevel s b (edge_face b i)) (sym is) (x_beside along fits reach).1

  pub y_stretch : f.axis ≡ Y → (f.x +ℤ pos k) ≤ℤ b.hi.x → (h.x +ℤ pos k) ≤ℤ q.hi.x → (m : ℕ) → n ≤ m → m ≡ n + k → LiesBesideLevel s b (edge_face b m)
  y_stretch along fits reach m from is = subst (λ (i : ℕ). LiesBesideLevel s b (edge_face b i)) (sym is) (y_beside along fits reach).1
