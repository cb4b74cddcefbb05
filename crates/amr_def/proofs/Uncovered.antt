-- A cell that is not covered keeps a mass of 0 or more.
use Rattle.std.proofs.Common.{◌≡◌, ℕ, suc, ◌+◌, ◌/◌, ◌≤◌, Bool, true, false, cond, ℤ, pos, negsuc, ◌+ℤ◌, ◌-ℤ◌, ◌≤ℤ◌, ◌<ℤ◌, IsSome, is_some, refl, sym, ap, subst, ◌∙◌, arith, ◌&&◌}
use Rattle.std.specs.declared.option.Option.{Option}
use Rattle.std.specs.declared.option.Option.TheVariants.{None, Some}
use Rattle.std.proofs.lemmas.Int.{ints}
use Rattle.std.proofs.lemmas.Bool.{or_parts}
use Rattle.amr_box.specs.declared.Cell.{Cell}
use Rattle.amr_box.specs.declared.Face.{Face}
use Rattle.amr_box.specs.declared.Axis.TheVariants.{X, Y}
use Rattle.amr_box.specs.Cells.{cell, half, holds, parent, within}
use Rattle.amr_box.proofs.Numbers.{more_and_less, plus_zero}
use Rattle.amr_box.specs.declared.Axis.{Axis}
use Rattle.amr_def.specs.declared.problem.Problem.{Problem}
use Rattle.amr_def.proofs.Flows.{net_is, wrapped_inside}
use Rattle.amr_def.proofs.Values.{same_cell, value_here}
use Rattle.amr_def.proofs.TwoLevels.{together}
use Rattle.amr_def.proofs.Children.{covered_by}
use Rattle.amr_def.proofs.Ghosts.{LeavesHigh, LeavesLow, HasGhosts, flow_leaves_high, flow_leaves_low, four_leave_high, four_leave_low, left_over}
use Rattle.amr_def.specs.State.{Masses, is_covered, mass_of}
use Rattle.amr_def.proofs.LevelLists.{child_0, child_1, child_2, child_3}
use Rattle.amr_def.specs.Flux.{Fluxes, face, net, flow, courant, low_cell, high_cell, flux_at}
use Rattle.amr_def.specs.Domain.{columns, rows, wrapped, home_cell, in_domain, is_inside, is_periodic, domain, Domain, domain_box}
use Rattle.amr_def.specs.Value.{value_at}
use Rattle.amr_def.specs.LevelStep.{effective}
use Rattle.amr_def.proofs.LevelLists.{IsCellInside, IsStable}
use Rattle.amr_def.proofs.Courants.{twice_as_many, courant_x_first, courant_x_second, courant_y_first, courant_y_second}

-- ---- halves

pub half-double : (z : ℤ) → half (z +ℤ z) ≡ z
half-double (pos n) = ap pos (omega arith)
half-double (negsuc n) = ap negsuc (omega arith)

pub half-double_next : (z : ℤ) → half (z +ℤ z +ℤ pos 1) ≡ z
half-double_next (pos n) = ap pos (omega arith)
half-double_next (negsuc n) =
    let e : negsuc n +ℤ negsuc n +ℤ pos 1 ≡ negsuc (n + n) = omega (arith, ints) in
    ap half e ∙ ap negsuc (omega arith)

-- ---- cells of the domain

pub inside_test : (n : ℕ) (z : ℤ) → pos 0 ≤ℤ z → z <ℤ pos n → is_inside n z ≡ true
inside_test n z h k = grind (arith, ints)

pub in_domain-yes : (p : Problem) (l : ℕ) (c : Cell) → IsCellInside p l c → in_domain (domain p l) c ≡ true
unfolding in_domain
in_domain-yes p l c i = rw (inside_test (columns p l) c.x i.west i.east, inside_test (rows p l) c.y i.south i.north)

pub wrapped_at : (s : Bool) (n : ℕ) (z : ℤ) → pos 0 ≤ℤ z → z <ℤ pos n → wrapped s n z ≡ z
wrapped_at s n (pos x) h k = wrapped_inside s n x (omega (arith, ints))
wrapped_at s n (negsuc x) h k = absurd (omega (arith, ints))

pub home_at : (p : Problem) (l : ℕ) (c : Cell) → IsCellInside p l c → home_cell (domain p l) c ≡ c
home_at p l c i = same_cell (wrapped_at (is_periodic p.x_sides) (columns p l) c.x i.west i.east) (wrapped_at (is_periodic p.y_sides) (rows p l) c.y i.south i.north)

child_sides : (p : Problem) (l : ℕ) → (columns p (suc l) ≡ columns p l + columns p l) × (rows p (suc l) ≡ rows p l + rows p l)
child_sides p l = (twice_as_many p.nx l, twice_as_many p.ny l)

pub child_inside : (p : Problem) (l : ℕ) (c k : Cell) (i j : ℕ) → i ≤ 1 → j ≤ 1 → k ≡ cell (c.x +ℤ c.x +ℤ pos i) (c.y +ℤ c.y +ℤ pos j) → IsCellInside p l c → IsCellInside p (suc l) k
child_inside p l c k i j hi hj e inside =
    let sides = child_sides p l in
    let x : k.x ≡ c.x +ℤ c.x +ℤ pos i = ap (λ (k : Cell). k.x) e in
    let y : k.y ≡ c.y +ℤ c.y +ℤ pos j = ap (λ (k : Cell). k.y) e in
    record {
      west = omega (arith, ints, x, inside.west);
      east = omega (arith, ints, x, inside.east, sides.0);
      south = omega (arith, ints, y, inside.south);
      north = omega (arith, ints, y, inside.north, sides.1);
    }

-- ---- children that are not there

pub no_mass : (o : Option ℕ) → is_some o ≡ false → o ≡ None
no_mass None e = refl
no_mass (Some v) e = cc

pub record HasNoChildren (fine : Masses) (c : Cell) : Type 0 where
  pub k0 : fine (child_0 c) ≡ None
  pub k1 : fine (child_1 c) ≡ None
  pub k2 : fine (child_2 c) ≡ None
  pub k3 : fine (child_3 c) ≡ None

pub no_children : (fine : Masses) (c : Cell) → is_covered fine c ≡ false → HasNoChildren fine c
no_children fine c e =
    let a = or_parts _ _ (sym (covered_by c fine) ∙ e) in
    let b = or_parts _ _ a.0 in
    let d = or_parts _ _ b.0 in
    record { k0 = no_mass _ d.0; k1 = no_mass _ d.1; k2 = no_mass _ b.1; k3 = no_mass _ a.1 }

pub cond_both : (P : ℤ → Type 0) (b : Bool) (x y : ℤ) → P x → P y → P (cond b x y)
cond_both P true x y h k = h
cond_both P false x y h k = k

-- ---- the children of a cell

module _ (c : Cell) where
  pub parent_0 : parent (child_0 c) ≡ c
  parent_0 = same_cell (half-double c.x) (half-double c.y)

  pub parent_1 : parent (child_1 c) ≡ c
  parent_1 = same_cell (half-double_next c.x) (half-double c.y)

  pub parent_2 : parent (child_2 c) ≡ c
  parent_2 = same_cell (half-double c.x) (half-double_next c.y)

  pub parent_3 : parent (child_3 c) ≡ c
  parent_3 = same_cell (half-double_next c.x) (half-double_next c.y)

module _ (p : Problem) (l : ℕ) (c : Cell) (inside : IsCellInside p l c) where
  pub inside_0 : IsCellInside p (suc l) (child_0 c)
  inside_0 = child_inside p l c (child_0 c) 0 0 (omega arith) (omega arith) (same_cell (plus_zero _) (plus_zero _)) inside

  pub inside_1 : IsCellInside p (suc l) (child_1 c)
  inside_1 = child_inside p l c (child_1 c) 1 0 (omega arith) (omega arith) (same_cell refl (plus_zero _)) inside

  pub inside_2 : IsCellInside p (suc l) (child_2 c)
  inside_2 = child_inside p l c (child_2 c) 0 1 (omega arith) (omega arith) (same_cell (plus_zero _) refl) inside

  pub inside_3 : IsCellInside p (suc l) (child_3 c)
  inside_3 = child_inside p l c (child_3 c) 1 1 (omega arith) (omega arith) refl inside

pub before_double : (z : ℤ) → (z +ℤ pos 1) +ℤ (z +ℤ pos 1) -ℤ pos 1 ≡ z +ℤ z +ℤ pos 1
before_double z = omega (arith, ints)

-- ---- the four faces of a cell that is not covered

module _ (p : Problem) (l : ℕ) (m old fine fine' : Masses) (e1 e2 : Fluxes) (stable : IsStable p)
    (ghosts1 : HasGhosts p (suc l) fine m e1) (ghosts2 : HasGhosts p (suc l) fine' m e2) (same : (k : Cell) → fine k ≡ None → fine' k ≡ None)
    (c : Cell) (inside : IsCellInside p l c) (there : IsSome (m c)) (none : HasNoChildren fine c) where
  v : ℕ
  v = mass_of m c

  home : home_cell (domain p l) c ≡ c
  home = home_at p l c inside

  -- the Courant numbers of the cell's faces
  abbrev cx : ℤ
  cx = courant p l (face X c.x c.y)

  abbrev cy : ℤ
  cy = courant p l (face Y c.x c.y)

  -- a child of the cell as the low or the high cell of a child face
  module _ (f : Face) (k : Cell) (kinside : IsCellInside p (suc l) k) (kparent : parent k ≡ c) (knone : fine k ≡ None) (s : ℤ) (is : courant p (suc l) f ≡ s) where
    high1 : low_cell f ≡ k → LeavesHigh s p.d (v / 4) (e1 f)
    unfolding v
    high1 e =
        let own : LeavesHigh (courant p (suc l) f) p.d (mass_of m (parent k) / 4) (e1 f) = ghosts1.high f k (ap (home_cell (domain p (suc l))) e ∙ home_at p (suc l) k kinside) knone (in_domain-yes p (suc l) k kinside) in
        subst (λ (t : ℤ). LeavesHigh t p.d (mass_of m c / 4) (e1 f)) is (subst (λ (j : Cell). LeavesHigh (courant p (suc l) f) p.d (mass_of m j / 4) (e1 f)) kparent own)

    high2 : low_cell f ≡ k → LeavesHigh s p.d (v / 4) (e2 f)
    unfolding v
    high2 e =
        let own : LeavesHigh (courant p (suc l) f) p.d (mass_of m (parent k) / 4) (e2 f) = ghosts2.high f k (ap (home_cell (domain p (suc l))) e ∙ home_at p (suc l) k kinside) (same k knone) (in_domain-yes p (suc l) k kinside) in
        subst (λ (t : ℤ). LeavesHigh t p.d (mass_of m c / 4) (e2 f)) is (subst (λ (j : Cell). LeavesHigh (courant p (suc l) f) p.d (mass_of m j / 4) (e2 f)) kparent own)

    low1 : high_cell f ≡ k → LeavesLow s p.d (v / 4) (e1 f)
    unfolding v
    low1 e =
        let own : LeavesLow (courant p (suc l) f) p.d (mass_of m (parent k) / 4) (e1 f) = ghosts1.low f k (ap (home_cell (domain p (suc l))) e ∙ home_at p (suc l) k kinside) knone (in_domain-yes p (suc l) k kinside) in
        subst (λ (t : ℤ). LeavesLow t p.d (mass_of m c / 4) (e1 f)) is (subst (λ (j : Cell). LeavesLow (courant p (suc l) f) p.d (mass_of m j / 4) (e1 f)) kparent own)

    low2 : high_cell f ≡ k → LeavesLow s p.d (v / 4) (e2 f)
    unfolding v
    low2 e =
        let own : LeavesLow (courant p (suc l) f) p.d (mass_of m (parent k) / 4) (e2 f) = ghosts2.low f k (ap (home_cell (domain p (suc l))) e ∙ home_at p (suc l) k kinside) (same k knone) (in_domain-yes p (suc l) k kinside) in
        subst (λ (t : ℤ). LeavesLow t p.d (mass_of m c / 4) (e2 f)) is (subst (λ (j : Cell). LeavesLow (courant p (suc l) f) p.d (mass_of m j / 4) (e2 f)) kparent own)

  e : Fluxes
  e = together p l m old fine e1 e2

  plain_high : (f : Face) → low_cell f ≡ c → LeavesHigh (courant p l f) p.d v (flux_at p l m old f)
  unfolding flux_at v
  plain_high f is =
      let own : value_at p l m old (low_cell f) ≡ mass_of m c = value_here p l m old (low_cell f) c (ap (home_cell (domain p l)) is ∙ home) there in
      subst (λ (u : ℕ). LeavesHigh (courant p l f) p.d (mass_of m c) (flow (courant p l f) p.d u (value_at p l m old (high_cell f)))) (sym own) (flow_leaves_high (courant p l f) p.d (mass_of m c) (value_at p l m old (high_cell f)))

  plain_low : (f : Face) → high_cell f ≡ c → LeavesLow (courant p l f) p.d v (flux_at p l m old f)
  unfolding flux_at v
  plain_low f is =
      let own : value_at p l m old (high_cell f) ≡ mass_of m c = value_here p l m old (high_cell f) c (ap (home_cell (domain p l)) is ∙ home) there in
      subst (λ (u : ℕ). LeavesLow (courant p l f) p.d (mass_of m c) (flow (courant p l f) p.d (value_at p l m old (low_cell f)) u)) (sym own) (flow_leaves_low (courant p l f) p.d (value_at p l m old (low_cell f)) (mass_of m c))

  high_x : LeavesHigh cx p.d v (e (face X (c.x +ℤ pos 1) c.y))
  unfolding e effective courant
  high_x =
      let x2 = (c.x +ℤ pos 1) +ℤ (c.x +ℤ pos 1) in
      let y2 = c.y +ℤ c.y in
      let f0 = face X x2 y2 in
      let f1 = face X x2 (y2 +ℤ pos 1) in
      let k0 : low_cell f0 ≡ child_1 c = same_cell (before_double c.x) refl in
      let k1 : low_cell f1 ≡ child_3 c = same_cell (before_double c.x) refl in
      cond_both (LeavesHigh cx p.d v) _ _ _
      (four_leave_high cx p.d v (e1 f0) (e1 f1) (e2 f0) (e2 f1) stable.some
      (high1 f0 (child_1 c) (inside_1 p l c inside) (parent_1 c) none.k1 cx (courant_x_first p l c.x c.x c.y c.y) k0) (high1 f1 (child_3 c) (inside_3 p l c inside) (parent_3 c) none.k3 cx (courant_x_second p l c.x c.x c.y c.y) k1)
      (high2 f0 (child_1 c) (inside_1 p l c inside) (parent_1 c) none.k1 cx (courant_x_first p l c.x c.x c.y c.y) k0) (high2 f1 (child_3 c) (inside_3 p l c inside) (parent_3 c) none.k3 cx (courant_x_second p l c.x c.x c.y c.y) k1))
      (plain_high (face X (c.x +ℤ pos 1) c.y) (same_cell (more_and_less c.x) refl))

  low_x : LeavesLow cx p.d v (e (face X c.x c.y))
  unfolding e effective courant
  low_x =
      let f0 = face X (c.x +ℤ c.x) (c.y +ℤ c.y) in
      let f1 = face X (c.x +ℤ c.x) (c.y +ℤ c.y +ℤ pos 1) in
      cond_both (LeavesLow cx p.d v) _ _ _
      (four_leave_low cx p.d v (e1 f0) (e1 f1) (e2 f0) (e2 f1) stable.some
      (low1 f0 (child_0 c) (inside_0 p l c inside) (parent_0 c) none.k0 cx (courant_x_first p l c.x c.x c.y c.y) refl) (low1 f1 (child_2 c) (inside_2 p l c inside) (parent_2 c) none.k2 cx (courant_x_second p l c.x c.x c.y c.y) refl)
      (low2 f0 (child_0 c) (inside_0 p l c inside) (parent_0 c) none.k0 cx (courant_x_first p l c.x c.x c.y c.y) refl) (low2 f1 (child_2 c) (inside_2 p l c inside) (parent_2 c) none.k2 cx (courant_x_second p l c.x c.x c.y c.y) refl))
      (plain_low (face X c.x c.y) refl)

  high_y : LeavesHigh cy p.d v (e (face Y c.x (c.y +ℤ pos 1)))
  unfolding e effective courant
  high_y =
      let x2 = c.x +ℤ c.x in
      let y2 = (c.y +ℤ pos 1) +ℤ (c.y +ℤ pos 1) in
      let f0 = face Y x2 y2 in
      let f1 = face Y (x2 +ℤ pos 1) y2 in
      let k0 : low_cell f0 ≡ child_2 c = same_cell refl (before_double c.y) in
      let k1 : low_cell f1 ≡ child_3 c = same_cell refl (before_double c.y) in
      cond_both (LeavesHigh cy p.d v) _ _ _
      (four_leave_high cy p.d v (e1 f0) (e1 f1) (e2 f0) (e2 f1) stable.some
      (high1 f0 (child_2 c) (inside_2 p l c inside) (parent_2 c) none.k2 cy (courant_y_first p l c.x c.x c.y c.y) k0) (high1 f1 (child_3 c) (inside_3 p l c inside) (parent_3 c) none.k3 cy (courant_y_second p l c.x c.x c.y c.y) k1)
      (high2 f0 (child_2 c) (inside_2 p l c inside) (parent_2 c) none.k2 cy (courant_y_first p l c.x c.x c.y c.y) k0) (high2 f1 (child_3 c) (inside_3 p l c inside) (parent_3 c) none.k3 cy (courant_y_second p l c.x c.x c.y c.y) k1))
      (plain_high (face Y c.x (c.y +ℤ pos 1)) (same_cell refl (more_and_less c.y)))

  low_y : LeavesLow cy p.d v (e (face Y c.x c.y))
  unfolding e effective courant
  low_y =
      let f0 = face Y (c.x +ℤ c.x) (c.y +ℤ c.y) in
      let f1 = face Y (c.x +ℤ c.x +ℤ pos 1) (c.y +ℤ c.y) in
      cond_both (LeavesLow cy p.d v) _ _ _
      (four_leave_low cy p.d v (e1 f0) (e1 f1) (e2 f0) (e2 f1) stable.some
      (low1 f0 (child_0 c) (inside_0 p l c inside) (parent_0 c) none.k0 cy (courant_y_first p l c.x c.x c.y c.y) refl) (low1 f1 (child_1 c) (inside_1 p l c inside) (parent_1 c) none.k1 cy (courant_y_second p l c.x c.x c.y c.y) refl)
      (low2 f0 (child_0 c) (inside_0 p l c inside) (parent_0 c) none.k0 cy (courant_y_first p l c.x c.x c.y c.y) refl) (low2 f1 (child_1 c) (inside_1 p l c inside) (parent_1 c) none.k1 cy (courant_y_second p l c.x c.x c.y c.y) refl))
      (plain_low (face Y c.x c.y) refl)

  -- a cell that is not covered loses no more than it has
  pub uncovered_covers : pos 0 ≤ℤ (pos (mass_of m c) +ℤ net (together p l m old fine e1 e2) c)
  unfolding v e courant
  uncovered_covers =
      let n = net_is (together p l m old fine e1 e2) c _ _ _ _ refl refl refl refl in
      subst (λ (z : ℤ). pos 0 ≤ℤ (pos (mass_of m c) +ℤ z)) (sym n) (left_over cx cy p.d (mass_of m c) _ _ _ _ stable.some (stable.within l (home_cell (domain p l) c)) low_x high_x low_y high_y)

pub within_columns : (n : ℕ) (z : ℤ) → within (pos 0) (pos n -ℤ pos 1) z ≡ is_inside n z
within_columns n z = grind (arith, ints)

pub domain_box_cells : (d : Domain) (c : Cell) → holds (domain_box d) c ≡ in_domain d c
unfolding in_domain
domain_box_cells d c = λ i. within_columns d.columns c.x i && within_columns d.rows c.y i

pub same_face : (a : Axis) {x x' y y' : ℤ} → x ≡ x' → y ≡ y' → face a x y ≡ face a x' y'
same_face a ex ey i = face a (ex i) (ey i)
