-- A step of all levels raises the greatest mass, counted in cells of level 0, by a little.
use Rattle.std.proofs.Common.{◌≡◌, ℕ, suc, ◌+◌, ◌-◌, ◌*◌, ◌/◌, ◌^◌, ◌<◌, ◌≤◌, true, ℤ, pos, negsuc, ◌+ℤ◌, ◌-ℤ◌, neg_ℤ, IsSome, refl, sym, ap, subst, ◌∙◌, arith}
use Rattle.std.specs.Prelude.{unsigned_abs}
use Rattle.std.specs.declared.option.Option.TheVariants.{None}
use Rattle.std.proofs.lemmas.Int.{ints}
use Rattle.std.proofs.Math.Nat.{lt-div-mul-add, mul-le-mul_left, pow-suc}
use Rattle.amr_box.specs.declared.Cell.{Cell}
use Rattle.amr_box.specs.declared.Face.{Face}
use Rattle.amr_box.specs.declared.Axis.{Axis}
use Rattle.amr_box.specs.declared.Axis.TheVariants.{X, Y}
use Rattle.amr_box.specs.Cells.{parent}
use Rattle.amr_box.proofs.Numbers.{more_and_less}
use Rattle.amr_def.specs.declared.problem.Problem.{Problem}
use Rattle.amr_def.proofs.Flows.{net_is}
use Rattle.amr_def.proofs.Values.{same_cell, value_here}
use Rattle.amr_def.proofs.TwoLevels.{together}
use Rattle.amr_def.proofs.Uncovered.{cond_both, home_at, in_domain-yes, HasNoChildren, parent_0, parent_1, parent_2, parent_3, inside_0, inside_1, inside_2, inside_3, before_double}
use Rattle.amr_def.proofs.Courants.{courant_x_first, courant_x_second, courant_y_first, courant_y_second}
use Rattle.amr_def.proofs.Bounds.{AxisGain, new_mass_bounded, share_at_most}
use Rattle.amr_def.specs.State.{Masses, mass_of}
use Rattle.amr_def.proofs.LevelLists.{child_0, child_1, child_2, child_3}
use Rattle.amr_def.specs.Flux.{Fluxes, face, net, flow, courant, low_cell, high_cell, flux_at}
use Rattle.amr_def.specs.Domain.{home_cell, in_domain, domain}
use Rattle.amr_def.specs.Value.{value_at}
use Rattle.amr_def.specs.LevelStep.{effective, through_children}
use Rattle.amr_def.proofs.LevelLists.{IsStable, IsCellInside}

-- a flux of size n with the sign of c
abbrev pub signed : ℤ → ℕ → ℤ
signed (pos a) n = pos n
signed (negsuc a) n = neg_ℤ (pos n)

-- a flux with the sign of c that carries at most the share of values up to b, w cells to one of level 0
pub record Along (c : ℤ) (d w b : ℕ) (z : ℤ) : Type 0 where
  pub size : ℕ
  pub is : z ≡ signed c size
  pub at_most : w * d * size ≤ unsigned_abs c * b

-- a flux that takes from a cell of mass v its share, but for some rounding
pub record Takes (c : ℤ) (d v : ℕ) (z : ℤ) : Type 0 where
  pub size : ℕ
  pub is : z ≡ signed c size
  pub at_least : unsigned_abs c * v ≤ d * size + 7 * d

pub signed_sum : (c : ℤ) (a b e f : ℕ) → (signed c a +ℤ signed c b) +ℤ (signed c e +ℤ signed c f) ≡ signed c (a + b + e + f)
signed_sum (pos k) a b e f = omega (arith, ints)
signed_sum (negsuc k) a b e f = omega (arith, ints)

-- ---- four finer fluxes beside one coarser one

along_four : (c : ℤ) (d w b : ℕ) (z1 z2 z3 z4 : ℤ) → Along c d (w * 4) b z1 → Along c d (w * 4) b z2 → Along c d (w * 4) b z3 → Along c d (w * 4) b z4 → Along c d w b ((z1 +ℤ z2) +ℤ (z3 +ℤ z4))
along_four c d w b z1 z2 z3 z4 g1 g2 g3 g4 =
    let s = signed_sum c g1.size g2.size g3.size g4.size in
    record {
      size = g1.size + g2.size + g3.size + g4.size;
      is = omega (arith, ints, s, g1.is, g2.is, g3.is, g4.is);
      at_most = omega (arith, g1.at_most, g2.at_most, g3.at_most, g4.at_most);
    }

quarter_takes : (a d v : ℕ) → 0 < d → a ≤ d → a * v ≤ d * (4 * (a * (v / 4) / d)) + 7 * d
quarter_takes a d v some small =
    let q = v / 4 in
    let whole : v ≤ 4 * q + 3 = omega arith in
    let shares : a * v ≤ a * (4 * q + 3) = mul-le-mul_left a whole in
    let one : a * q < a * q / d * d + d = lt-div-mul-add {a = a * q} {b = d} some in
    omega (arith, shares, one, small)

-- ---- a level's own fluxes

pub flow_along : (c : ℤ) (d w b low high : ℕ) → w * low ≤ b → w * high ≤ b → Along c d w b (flow c d low high)
flow_along (pos a) d w b low high l h = record { size = a * low / d; is = refl; at_most = share_at_most a d w b low l }
flow_along (negsuc a) d w b low high l h = record { size = suc a * high / d; is = refl; at_most = share_at_most (suc a) d w b high h }

abbrev pub IsForward : ℤ → Type 0
IsForward (pos a) = Unit {0}
IsForward (negsuc a) = ⊥

abbrev pub IsBackward : ℤ → Type 0
IsBackward (pos a) = ⊥
IsBackward (negsuc a) = Unit {0}

-- what the axis brings a cell: the flux through its low face less that through its high face, where the upstream one is its own
pub record OwnHigh (c : ℤ) (d v : ℕ) (z : ℤ) : Type 0 where
  pub takes : IsForward c → Takes c d v z

pub record OwnLow (c : ℤ) (d v : ℕ) (z : ℤ) : Type 0 where
  pub takes : IsBackward c → Takes c d v z

axis_gain : (c : ℤ) (d w b v : ℕ) (low high : ℤ) → Along c d w b low → Along c d w b high → OwnLow c d v low → OwnHigh c d v high → AxisGain (unsigned_abs c) d w b v 7 (low -ℤ high)
axis_gain (pos a) d w b v low high il ih ol oh =
    let t = oh.takes tt in
    record { gained = il.size; lost = t.size; is = omega (arith, ints, il.is, t.is); at_most = il.at_most; at_least = t.at_least }
axis_gain (negsuc a) d w b v low high il ih ol oh =
    let t = ol.takes tt in
    record { gained = ih.size; lost = t.size; is = omega (arith, ints, ih.is, t.is); at_most = ih.at_most; at_least = t.at_least }

-- ---- a level and the finer one

-- what is known of the fluxes of a level: their sizes, and those out of ghost cells
pub record Flows (p : Problem) (l : ℕ) (m old : Masses) (b : ℕ) (e : Fluxes) : Type 0 where
  pub along : (f : Face) → Along (courant p l f) p.d (4 ^ l) b (e f)
  pub high : (f : Face) (k : Cell) → home_cell (domain p l) (low_cell f) ≡ k → m k ≡ None → in_domain (domain p l) k ≡ true → IsForward (courant p l f) → e f ≡ signed (courant p l f) (unsigned_abs (courant p l f) * (mass_of old (parent k) / 4) / p.d)
  pub low : (f : Face) (k : Cell) → home_cell (domain p l) (high_cell f) ≡ k → m k ≡ None → in_domain (domain p l) k ≡ true → IsBackward (courant p l f) → e f ≡ signed (courant p l f) (unsigned_abs (courant p l f) * (mass_of old (parent k) / 4) / p.d)

four_take : (c : ℤ) (d v : ℕ) (z1 z2 z3 z4 : ℤ) → 0 < d → unsigned_abs c ≤ d → z1 ≡ signed c (unsigned_abs c * (v / 4) / d) → z2 ≡ signed c (unsigned_abs c * (v / 4) / d) → z3 ≡ signed c (unsigned_abs c * (v / 4) / d) → z4 ≡ signed c (unsigned_abs c * (v / 4) / d) → Takes c d v ((z1 +ℤ z2) +ℤ (z3 +ℤ z4))
four_take c d v z1 z2 z3 z4 some small h1 h2 h3 h4 =
    let n = unsigned_abs c * (v / 4) / d in
    let s = signed_sum c n n n n in
    record { size = n + n + n + n; is = omega (arith, ints, s, h1, h2, h3, h4); at_least = omega (arith, quarter_takes (unsigned_abs c) d v some small) }

flow_takes_high : (c : ℤ) (d v high : ℕ) → 0 < d → IsForward c → Takes c d v (flow c d v high)
flow_takes_high (pos a) d v high some h = record { size = a * v / d; is = refl; at_least = omega (arith, lt-div-mul-add {a = a * v} {b = d} some) }
flow_takes_high (negsuc a) d v high some h = absurd h

flow_takes_low : (c : ℤ) (d low v : ℕ) → 0 < d → IsBackward c → Takes c d v (flow c d low v)
flow_takes_low (pos a) d low v some h = absurd h
flow_takes_low (negsuc a) d low v some h = record { size = suc a * v / d; is = refl; at_least = omega (arith, lt-div-mul-add {a = suc a * v} {b = d} some) }

-- every value of a level and of its ghost cells is at most b, counted in cells of level 0
pub record IsUpTo (p : Problem) (l : ℕ) (m old : Masses) (b : ℕ) : Type 0 where
  pub at : (c : Cell) → 4 ^ l * value_at p l m old c ≤ b

module _ (p : Problem) (l : ℕ) (m old fine fine' : Masses) (b : ℕ) (e1 e2 : Fluxes) (flows1 : Flows p (suc l) fine m b e1) (flows2 : Flows p (suc l) fine' m b e2) (values : IsUpTo p l m old b) where
  finer : (e : Fluxes) (masses : Masses) → Flows p (suc l) masses m b e → (f : Face) (s : ℤ) → courant p (suc l) f ≡ s → Along s p.d (4 ^ l * 4) b (e f)
  finer e masses flows f s is = subst (λ w. Along s p.d w b (e f)) (pow-suc 4 l) (subst (λ (t : ℤ). Along t p.d (4 ^ suc l) b (e f)) is (flows.along f))

  children_along : (a : Axis) (x y : ℤ) → Along (courant p l (face a x y)) p.d (4 ^ l) b (through_children e1 a x y +ℤ through_children e2 a x y)
  children_along X x y =
      let first = courant_x_first p l x (x +ℤ x) y y in
      let second = courant_x_second p l x (x +ℤ x) y y in
      along_four (courant p l (face X x y)) p.d (4 ^ l) b _ _ _ _ (finer e1 fine flows1 _ _ first) (finer e1 fine flows1 _ _ second) (finer e2 fine' flows2 _ _ first) (finer e2 fine' flows2 _ _ second)
  children_along Y x y =
      let first = courant_y_first p l x x y (y +ℤ y) in
      let second = courant_y_second p l x x y (y +ℤ y) in
      along_four (courant p l (face Y x y)) p.d (4 ^ l) b _ _ _ _ (finer e1 fine flows1 _ _ first) (finer e1 fine flows1 _ _ second) (finer e2 fine' flows2 _ _ first) (finer e2 fine' flows2 _ _ second)

  pub together_along : (f : Face) → Along (courant p l f) p.d (4 ^ l) b (effective p l m old fine e1 e2 f)
  unfolding effective flux_at
  together_along f = cond_both (Along (courant p l f) p.d (4 ^ l) b) _ _ _ (children_along f.axis f.x f.y) (flow_along (courant p l f) p.d (4 ^ l) b _ _ (values.at (low_cell f)) (values.at (high_cell f)))

  module _ (stable : IsStable p) (same : (k : Cell) → fine k ≡ None → fine' k ≡ None) (c : Cell) (inside : IsCellInside p l c) (there : IsSome (m c)) (none : HasNoChildren fine c) where
    home : home_cell (domain p l) c ≡ c
    home = home_at p l c inside

    -- the Courant numbers of the cell's faces
    abbrev cx : ℤ
    cx = courant p l (face X c.x c.y)

    abbrev cy : ℤ
    cy = courant p l (face Y c.x c.y)

    stable_here : unsigned_abs cx + unsigned_abs cy ≤ p.d
    unfolding courant
    stable_here = stable.within l (home_cell (domain p l) c)

    -- the flux of a quarter of the cell's mass
    abbrev quarter : ℤ → ℤ
    quarter s = signed s (unsigned_abs s * (mass_of m c / 4) / p.d)

    module _ (f : Face) (k : Cell) (kinside : IsCellInside p (suc l) k) (kparent : parent k ≡ c) (knone : fine k ≡ None) (s : ℤ) (is : courant p (suc l) f ≡ s) where
      at_home : (j : Cell) → j ≡ k → home_cell (domain p (suc l)) j ≡ k
      at_home j e = ap (home_cell (domain p (suc l))) e ∙ home_at p (suc l) k kinside

      exact : (z : ℤ) → z ≡ signed (courant p (suc l) f) (unsigned_abs (courant p (suc l) f) * (mass_of m (parent k) / 4) / p.d) → z ≡ quarter (courant p (suc l) f)
      exact z h = h ∙ ap (λ (j : Cell). signed (courant p (suc l) f) (unsigned_abs (courant p (suc l) f) * (mass_of m j / 4) / p.d)) kparent

      high1 : low_cell f ≡ k → IsForward s → e1 f ≡ quarter s
      high1 e = subst (λ (t : ℤ). IsForward t → e1 f ≡ quarter t) is (λ h. exact (e1 f) (flows1.high f k (at_home _ e) knone (in_domain-yes p (suc l) k kinside) h))

      high2 : low_cell f ≡ k → IsForward s → e2 f ≡ quarter s
      high2 e = subst (λ (t : ℤ). IsForward t → e2 f ≡ quarter t) is (λ h. exact (e2 f) (flows2.high f k (at_home _ e) (same k knone) (in_domain-yes p (suc l) k kinside) h))

      low1 : high_cell f ≡ k → IsBackward s → e1 f ≡ quarter s
      low1 e = subst (λ (t : ℤ). IsBackward t → e1 f ≡ quarter t) is (λ h. exact (e1 f) (flows1.low f k (at_home _ e) knone (in_domain-yes p (suc l) k kinside) h))

      low2 : high_cell f ≡ k → IsBackward s → e2 f ≡ quarter s
      low2 e = subst (λ (t : ℤ). IsBackward t → e2 f ≡ quarter t) is (λ h. exact (e2 f) (flows2.low f k (at_home _ e) (same k knone) (in_domain-yes p (suc l) k kinside) h))

    plain_high : (f : Face) → low_cell f ≡ c → IsForward (courant p l f) → Takes (courant p l f) p.d (mass_of m c) (flux_at p l m old f)
    unfolding flux_at
    plain_high f is fwd =
        let own : value_at p l m old (low_cell f) ≡ mass_of m c = value_here p l m old (low_cell f) c (ap (home_cell (domain p l)) is ∙ home) there in
        subst (λ (u : ℕ). Takes (courant p l f) p.d (mass_of m c) (flow (courant p l f) p.d u (value_at p l m old (high_cell f)))) (sym own) (flow_takes_high (courant p l f) p.d (mass_of m c) _ stable.some fwd)

    plain_low : (f : Face) → high_cell f ≡ c → IsBackward (courant p l f) → Takes (courant p l f) p.d (mass_of m c) (flux_at p l m old f)
    unfolding flux_at
    plain_low f is bwd =
        let own : value_at p l m old (high_cell f) ≡ mass_of m c = value_here p l m old (high_cell f) c (ap (home_cell (domain p l)) is ∙ home) there in
        subst (λ (u : ℕ). Takes (courant p l f) p.d (mass_of m c) (flow (courant p l f) p.d (value_at p l m old (low_cell f)) u)) (sym own) (flow_takes_low (courant p l f) p.d _ (mass_of m c) stable.some bwd)

    small_x : unsigned_abs cx ≤ p.d
    small_x = omega (arith, stable_here)

    small_y : unsigned_abs cy ≤ p.d
    small_y = omega (arith, stable_here)

    high_x : OwnHigh cx p.d (mass_of m c) (effective p l m old fine e1 e2 (face X (c.x +ℤ pos 1) c.y))
    unfolding effective courant
    high_x = record {
      takes = λ fwd.
          let x2 = (c.x +ℤ pos 1) +ℤ (c.x +ℤ pos 1) in
          let f0 = face X x2 (c.y +ℤ c.y) in
          let f1 = face X x2 (c.y +ℤ c.y +ℤ pos 1) in
          let k0 : low_cell f0 ≡ child_1 c = same_cell (before_double c.x) refl in
          let k1 : low_cell f1 ≡ child_3 c = same_cell (before_double c.x) refl in
          cond_both (Takes cx p.d (mass_of m c)) _ _ _
          (four_take cx p.d (mass_of m c) (e1 f0) (e1 f1) (e2 f0) (e2 f1) stable.some small_x
          (high1 f0 (child_1 c) (inside_1 p l c inside) (parent_1 c) none.k1 cx (courant_x_first p l c.x c.x c.y c.y) k0 fwd) (high1 f1 (child_3 c) (inside_3 p l c inside) (parent_3 c) none.k3 cx (courant_x_second p l c.x c.x c.y c.y) k1 fwd)
          (high2 f0 (child_1 c) (inside_1 p l c inside) (parent_1 c) none.k1 cx (courant_x_first p l c.x c.x c.y c.y) k0 fwd) (high2 f1 (child_3 c) (inside_3 p l c inside) (parent_3 c) none.k3 cx (courant_x_second p l c.x c.x c.y c.y) k1 fwd))
          (plain_high (face X (c.x +ℤ pos 1) c.y) (same_cell (more_and_less c.x) refl) fwd);
    }

    low_x : OwnLow cx p.d (mass_of m c) (effective p l m old fine e1 e2 (face X c.x c.y))
    unfolding effective courant
    low_x = record {
      takes = λ bwd.
          let f0 = face X (c.x +ℤ c.x) (c.y +ℤ c.y) in
          let f1 = face X (c.x +ℤ c.x) (c.y +ℤ c.y +ℤ pos 1) in
          cond_both (Takes cx p.d (mass_of m c)) _ _ _
          (four_take cx p.d (mass_of m c) (e1 f0) (e1 f1) (e2 f0) (e2 f1) stable.some small_x
          (low1 f0 (child_0 c) (inside_0 p l c inside) (parent_0 c) none.k0 cx (courant_x_first p l c.x c.x c.y c.y) refl bwd) (low1 f1 (child_2 c) (inside_2 p l c inside) (parent_2 c) none.k2 cx (courant_x_second p l c.x c.x c.y c.y) refl bwd)
          (low2 f0 (child_0 c) (inside_0 p l c inside) (parent_0 c) none.k0 cx (courant_x_first p l c.x c.x c.y c.y) refl bwd) (low2 f1 (child_2 c) (inside_2 p l c inside) (parent_2 c) none.k2 cx (courant_x_second p l c.x c.x c.y c.y) refl bwd))
          (plain_low (face X c.x c.y) refl bwd);
    }

    high_y : OwnHigh cy p.d (mass_of m c) (effective p l m old fine e1 e2 (face Y c.x (c.y +ℤ pos 1)))
    unfolding effective courant
    high_y = record {
      takes = λ fwd.
          let y2 = (c.y +ℤ pos 1) +ℤ (c.y +ℤ pos 1) in
          let f0 = face Y (c.x +ℤ c.x) y2 in
          let f1 = face Y (c.x +ℤ c.x +ℤ pos 1) y2 in
          let k0 : low_cell f0 ≡ child_2 c = same_cell refl (before_double c.y) in
          let k1 : low_cell f1 ≡ child_3 c = same_cell refl (before_double c.y) in
          cond_both (Takes cy p.d (mass_of m c)) _ _ _
          (four_take cy p.d (mass_of m c) (e1 f0) (e1 f1) (e2 f0) (e2 f1) stable.some small_y
          (high1 f0 (child_2 c) (inside_2 p l c inside) (parent_2 c) none.k2 cy (courant_y_first p l c.x c.x c.y c.y) k0 fwd) (high1 f1 (child_3 c) (inside_3 p l c inside) (parent_3 c) none.k3 cy (courant_y_second p l c.x c.x c.y c.y) k1 fwd)
          (high2 f0 (child_2 c) (inside_2 p l c inside) (parent_2 c) none.k2 cy (courant_y_first p l c.x c.x c.y c.y) k0 fwd) (high2 f1 (child_3 c) (inside_3 p l c inside) (parent_3 c) none.k3 cy (courant_y_second p l c.x c.x c.y c.y) k1 fwd))
          (plain_high (face Y c.x (c.y +ℤ pos 1)) (same_cell refl (more_and_less c.y)) fwd);
    }

    low_y : OwnLow cy p.d (mass_of m c) (effective p l m old fine e1 e2 (face Y c.x c.y))
    unfolding effective courant
    low_y = record {
      takes = λ bwd.
          let f0 = face Y (c.x +ℤ c.x) (c.y +ℤ c.y) in
          let f1 = face Y (c.x +ℤ c.x +ℤ pos 1) (c.y +ℤ c.y) in
          cond_both (Takes cy p.d (mass_of m c)) _ _ _
          (four_take cy p.d (mass_of m c) (e1 f0) (e1 f1) (e2 f0) (e2 f1) stable.some small_y
          (low1 f0 (child_0 c) (inside_0 p l c inside) (parent_0 c) none.k0 cy (courant_y_first p l c.x c.x c.y c.y) refl bwd) (low1 f1 (child_1 c) (inside_1 p l c inside) (parent_1 c) none.k1 cy (courant_y_second p l c.x c.x c.y c.y) refl bwd)
          (low2 f0 (child_0 c) (inside_0 p l c inside) (parent_0 c) none.k0 cy (courant_y_first p l c.x c.x c.y c.y) refl bwd) (low2 f1 (child_1 c) (inside_1 p l c inside) (parent_1 c) none.k1 cy (courant_y_second p l c.x c.x c.y c.y) refl bwd))
          (plain_low (face Y c.x c.y) refl bwd);
    }

    -- a cell that is not covered, after the step
    pub uncovered_raised : (new : ℕ) → 4 ^ l * mass_of m c ≤ b → pos new ≡ pos (mass_of m c) +ℤ net (together p l m old fine e1 e2) c → 4 ^ l * new ≤ b + 14 * 4 ^ l
    unfolding courant
    uncovered_raised new below is =
        let n = net_is (together p l m old fine e1 e2) c _ _ _ _ refl refl refl refl in
        let rest : p.d ≡ unsigned_abs cx + unsigned_abs cy + (p.d - (unsigned_abs cx + unsigned_abs cy)) = omega (arith, stable_here) in
        let raised = new_mass_bounded (unsigned_abs cx) (unsigned_abs cy) _ p.d (4 ^ l) b (mass_of m c) new 7 _ _ stable.some rest below
        (axis_gain cx p.d (4 ^ l) b (mass_of m c) _ _ (together_along (face X c.x c.y)) (together_along (face X (c.x +ℤ pos 1) c.y)) low_x high_x)
        (axis_gain cy p.d (4 ^ l) b (mass_of m c) _ _ (together_along (face Y c.x c.y)) (together_along (face Y c.x (c.y +ℤ pos 1))) low_y high_y)
        (is ∙ ap (λ (z : ℤ). pos (mass_of m c) +ℤ z) n) in
        raised
