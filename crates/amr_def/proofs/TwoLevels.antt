-- A level and the finer one: the effective fluxes of a covered cell are the sums over its children.
use Rattle.std.proofs.Common.{◌≡◌, ℕ, Bool, true, false, cond, ◌||◌, ℤ, pos, ◌+ℤ◌, ◌-ℤ◌, IsSome, refl, ap, ◌∙◌, arith}
use Rattle.std.proofs.lemmas.Int.{ints}
use Rattle.amr_box.specs.declared.Cell.{Cell}
use Rattle.amr_box.specs.declared.Face.{Face}
use Rattle.amr_box.specs.declared.Axis.{Axis}
use Rattle.amr_box.specs.declared.Axis.TheVariants.{X, Y}
use Rattle.amr_box.proofs.Numbers.{more_and_less}
use Rattle.amr_def.specs.declared.problem.Problem.{Problem}
use Rattle.amr_def.proofs.Flows.{net_is}
use Rattle.amr_def.proofs.Children.{children_mass-is}
use Rattle.amr_def.proofs.Values.{same_cell}
use Rattle.amr_def.specs.State.{Masses, is_covered, mass_of, children_mass}
use Rattle.amr_def.proofs.LevelLists.{child_0, child_1, child_2, child_3}
use Rattle.amr_def.specs.Flux.{Fluxes, face, net, low_cell, high_cell}
use Rattle.amr_def.specs.Domain.{home_cell, domain}
use Rattle.amr_def.specs.LevelStep.{effective, through_children}
use Rattle.amr_def.proofs.LevelLists.{over_children, HasAllChildren}

-- the net fluxes of the children are those through the outer child faces
children_net : (e : Fluxes) (c : Cell) → over_children (net e) c ≡ (through_children e X c.x c.y -ℤ through_children e X (c.x +ℤ pos 1) c.y) +ℤ (through_children e Y c.x c.y -ℤ through_children e Y c.x (c.y +ℤ pos 1))
unfolding net
children_net e c =
    let x2 = c.x +ℤ c.x in
    let y2 = c.y +ℤ c.y in
    let next_x : x2 +ℤ pos 1 +ℤ pos 1 ≡ (c.x +ℤ pos 1) +ℤ (c.x +ℤ pos 1) = omega (arith, ints) in
    let next_y : y2 +ℤ pos 1 +ℤ pos 1 ≡ (c.y +ℤ pos 1) +ℤ (c.y +ℤ pos 1) = omega (arith, ints) in
    omega (
      arith,
      ints,
      ap (λ (z : ℤ). e (face X z y2)) next_x,
      ap (λ (z : ℤ). e (face X z (y2 +ℤ pos 1))) next_x,
      ap (λ (z : ℤ). e (face Y x2 z)) next_y,
      ap (λ (z : ℤ). e (face Y (x2 +ℤ pos 1) z)) next_y,
    )

cond_right : (a b : Bool) (x y : ℤ) → b ≡ true → cond (a || b) x y ≡ x
cond_right true b x y e = refl
cond_right false b x y e = rw e

cond_left : (a b : Bool) (x y : ℤ) → a ≡ true → cond (a || b) x y ≡ x
cond_left a b x y e = rw e

module _ (p : Problem) (l : ℕ) (m old fine : Masses) (e1 e2 : Fluxes) where
  -- what flowed through the child faces in both finer steps
  abbrev pub finer_flux : Axis → ℤ → ℤ → ℤ
  finer_flux a x y = through_children e1 a x y +ℤ through_children e2 a x y

  abbrev pub together : Fluxes
  together f = effective p l m old fine e1 e2 f

  beside_high : (f : Face) → is_covered fine (home_cell (domain p l) (high_cell f)) ≡ true → together f ≡ finer_flux f.axis f.x f.y
  unfolding effective
  beside_high f covered = cond_right _ _ _ _ covered

  beside_low : (f : Face) → is_covered fine (home_cell (domain p l) (low_cell f)) ≡ true → together f ≡ finer_flux f.axis f.x f.y
  unfolding effective
  beside_low f covered = cond_left _ _ _ _ covered

  module _ (c : Cell) (home : home_cell (domain p l) c ≡ c) (covered : is_covered fine c ≡ true) where
    covered_at : (k : Cell) → k ≡ c → is_covered fine (home_cell (domain p l) k) ≡ true
    covered_at k e = ap (λ (j : Cell). is_covered fine (home_cell (domain p l) j)) e ∙ ap (is_covered fine) home ∙ covered

    -- the net effective flux of a covered cell is that of its children over both steps
    pub covered_net : net together c ≡ over_children (net e1) c +ℤ over_children (net e2) c
    covered_net =
        let n = net_is together c _ _ _ _
        (beside_high (face X c.x c.y) (covered_at c refl))
        (beside_low (face X (c.x +ℤ pos 1) c.y) (covered_at _ (same_cell (more_and_less c.x) refl)))
        (beside_high (face Y c.x c.y) (covered_at c refl))
        (beside_low (face Y c.x (c.y +ℤ pos 1)) (covered_at _ (same_cell refl (more_and_less c.y)))) in
        omega (arith, ints, n, children_net e1 c, children_net e2 c)

-- what a cell has after both finer steps is what it had and what came in
pub record IsExact (fine fine' : Masses) (e1 e2 : Fluxes) : Type 0 where
  pub at : (k : Cell) → IsSome (fine k) → pos (mass_of fine' k) ≡ pos (mass_of fine k) +ℤ (net e1 k +ℤ net e2 k)

-- a covered cell stays the sum of its children
module _ (p : Problem) (l : ℕ) (m old fine fine' : Masses) (e1 e2 : Fluxes) where
  pub covered_mass : IsExact fine fine' e1 e2 → HasAllChildren fine → (c : Cell) → home_cell (domain p l) c ≡ c → is_covered fine c ≡ true → mass_of m c ≡ children_mass fine c → pos (mass_of m c) +ℤ net (together p l m old fine e1 e2) c ≡ pos (children_mass fine' c)
  covered_mass exact children c home covered synced =
      omega (
        arith,
        ints,
        synced,
        children_mass-is c fine,
        children_mass-is c fine',
        covered_net p l m old fine e1 e2 c home covered,
        exact.at (child_0 c) (children.k0 c covered),
        exact.at (child_1 c) (children.k1 c covered),
        exact.at (child_2 c) (children.k2 c covered),
        exact.at (child_3 c) (children.k3 c covered),
      )

-- a coarse step with plain fluxes and then a register of the differences is the step with the effective fluxes
net-sub : (a b : Fluxes) (c : Cell) → net (λ f. a f -ℤ b f) c ≡ net a c -ℤ net b c
unfolding net
net-sub a b c = omega (arith, ints)

pub refluxed : (v : ℕ) (plain e : Fluxes) (c : Cell) → (pos v +ℤ net plain c) +ℤ net (λ f. e f -ℤ plain f) c ≡ pos v +ℤ net e c
refluxed v plain e c = omega (arith, ints, net-sub e plain c)
