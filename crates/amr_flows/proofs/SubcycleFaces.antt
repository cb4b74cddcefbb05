-- The faces of a cell that is not covered: the flux of the step there is the plain one, and what a register gathers.
use Rattle.std.proofs.Common.{◌≡◌, ◌∙◌, ℕ, suc, ◌<◌, Bool, true, false, ◌&&◌, ◌||◌, cond, ℤ, pos, ◌+ℤ◌, ◌-ℤ◌, List, length, refl, ap, arith}
use Rattle.std.specs.Prelude.{is_some, not}
use Rattle.std.proofs.lemmas.Int.{ints}
use Rattle.amr_box.specs.declared.Cell.{Cell}
use Rattle.amr_box.specs.declared.Face.{Face}
use Rattle.amr_box.specs.declared.Axis.TheVariants.{X, Y}
use Rattle.amr_box.proofs.Numbers.{more_and_less, plus_zero as none}
use Rattle.amr_def.specs.declared.problem.Problem.{Problem}
use Rattle.amr_def.specs.Domain.{domain, home_cell, in_domain}
use Rattle.amr_def.specs.State.{Level, Masses, is_covered}
use Rattle.amr_def.specs.Flux.{Fluxes, face, flux_at, high_cell, low_cell, net}
use Rattle.amr_def.specs.LevelStep.{effective, step, through_children}
use Rattle.amr_def.specs.Ledger.{first_of}
use Rattle.amr_def.proofs.LevelLists.{HasAllChildren, IsCellInside}
use Rattle.amr_def.proofs.Subcycle.{HasSameCells}
use Rattle.amr_def.proofs.Uncovered.{before_double, home_at, in_domain-yes}
use Rattle.amr_def.proofs.Values.{same_cell}
use Rattle.amr_laws.specs.Levels.{AreLevels, masses_of}
use Rattle.amr_register.specs.CoarseFlows.{edge_flows}
use Rattle.amr_register.specs.RegisterCells.{is_coarse_fine}
use Rattle.amr_flows.specs.Words.{child_flows}
use Rattle.amr_flows.proofs.RegisterFlowsCells.{alike, child_of, child_of-home, child_of-inside, parent_of}
use Rattle.amr_flows.proofs.SubcycleSteps.{IsFree, own_high, own_low}

-- ---- one face

-- whether two tests are not both true
abbrev one_fails : Bool → Bool → Type 0
one_fails a b = (a && b) ≡ false

first_fails : (a b : Bool) → a ≡ false → one_fails a b
first_fails a b e = ap (λ (t : Bool). t && b) e

second_fails : (a b : Bool) → b ≡ false → one_fails a b
second_fails true b e = e
second_fails false b e = refl

parts : (a b : Bool) → one_fails a b → (x y z : ℤ) → cond (a || b) (x +ℤ y) z ≡ z +ℤ ((cond (cond a (not b) b) x (pos 0) +ℤ cond (cond a (not b) b) y (pos 0)) -ℤ cond (cond a (not b) b) z (pos 0))
parts true true h x y z = cc
parts true false h x y z = omega (arith, ints)
parts false true h x y z = omega (arith, ints)
parts false false h x y z = omega (arith, ints)

-- the flux of a step at a face that is not between two covered cells, where through the child faces flows what d1 and d2 say
face_parts : (p : Problem) (l : ℕ) (m old fine : Masses) (e1 e2 d1 d2 : Fluxes) (f : Face) → one_fails (is_covered fine (home_cell (domain p l) (low_cell f))) (is_covered fine (home_cell (domain p l) (high_cell f)))
    → through_children e1 f.axis f.x f.y ≡ through_children d1 f.axis f.x f.y → through_children e2 f.axis f.x f.y ≡ through_children d2 f.axis f.x f.y
    → effective p l m old fine e1 e2 f ≡ flux_at p l m old f +ℤ ((child_flows p l fine d1 f +ℤ child_flows p l fine d2 f) -ℤ edge_flows p l m old fine f)
unfolding effective child_flows edge_flows is_coarse_fine
face_parts p l m old fine e1 e2 d1 d2 f one h1 h2 =
    let low = is_covered fine (home_cell (domain p l) (low_cell f)) in
    let high = is_covered fine (home_cell (domain p l) (high_cell f)) in
    (λ i. cond (low || high) (h1 i +ℤ h2 i) (flux_at p l m old f)) ∙ parts low high one _ _ _

-- ---- the four faces of a cell

abbrev sum_at : Fluxes → Fluxes → Fluxes → Fluxes → Face → ℤ
sum_at z x y w f = z f +ℤ ((x f +ℤ y f) -ℤ w f)

net_parts : (a z x y w : Fluxes) (c : Cell) → a (face X c.x c.y) ≡ sum_at z x y w (face X c.x c.y) → a (face X (c.x +ℤ pos 1) c.y) ≡ sum_at z x y w (face X (c.x +ℤ pos 1) c.y)
    → a (face Y c.x c.y) ≡ sum_at z x y w (face Y c.x c.y) → a (face Y c.x (c.y +ℤ pos 1)) ≡ sum_at z x y w (face Y c.x (c.y +ℤ pos 1))
    → net a c ≡ net z c +ℤ ((net x c +ℤ net y c) -ℤ net w c)
unfolding net
net_parts a z x y w c west east south north = omega (arith, ints, west, east, south, north)

-- through its child faces e flows as d does
pub record AgreesRound (c : Cell) (e d : Fluxes) : Type 0 where
  pub west : through_children e X c.x c.y ≡ through_children d X c.x c.y
  pub east : through_children e X (c.x +ℤ pos 1) c.y ≡ through_children d X (c.x +ℤ pos 1) c.y
  pub south : through_children e Y c.x c.y ≡ through_children d Y c.x c.y
  pub north : through_children e Y c.x (c.y +ℤ pos 1) ≡ through_children d Y c.x (c.y +ℤ pos 1)

module _ (p : Problem) (l : ℕ) (fine : Masses) (c : Cell) (inside : IsCellInside p l c) (free : is_covered fine c ≡ false) where
  not_covered : (q : Cell) → q ≡ c → is_covered fine (home_cell (domain p l) q) ≡ false
  not_covered q e = ap (λ (r : Cell). is_covered fine (home_cell (domain p l) r)) e ∙ ap (is_covered fine) (home_at p l c inside) ∙ free

  -- what comes into the cell in the step is what plain fluxes bring, and what is gathered
  pub net_by_parts : (m old : Masses) (e1 e2 d1 d2 : Fluxes) → AgreesRound c e1 d1 → AgreesRound c e2 d2
      → net (effective p l m old fine e1 e2) c ≡ net (flux_at p l m old) c +ℤ ((net (child_flows p l fine d1) c +ℤ net (child_flows p l fine d2) c) -ℤ net (edge_flows p l m old fine) c)
  net_by_parts m old e1 e2 d1 d2 a1 a2 =
      let at : (f : Face) → one_fails (is_covered fine (home_cell (domain p l) (low_cell f))) (is_covered fine (home_cell (domain p l) (high_cell f)))
      → through_children e1 f.axis f.x f.y ≡ through_children d1 f.axis f.x f.y → through_children e2 f.axis f.x f.y ≡ through_children d2 f.axis f.x f.y
      → effective p l m old fine e1 e2 f ≡ sum_at (flux_at p l m old) (child_flows p l fine d1) (child_flows p l fine d2) (edge_flows p l m old fine) f = face_parts p l m old fine e1 e2 d1 d2 in
      net_parts (effective p l m old fine e1 e2) (flux_at p l m old) (child_flows p l fine d1) (child_flows p l fine d2) (edge_flows p l m old fine) c
      (at (face X c.x c.y) (second_fails _ _ (not_covered c refl)) a1.west a2.west)
      (at (face X (c.x +ℤ pos 1) c.y) (first_fails _ _ (not_covered _ (same_cell (more_and_less c.x) refl))) a1.east a2.east)
      (at (face Y c.x c.y) (second_fails _ _ (not_covered c refl)) a1.south a2.south)
      (at (face Y c.x (c.y +ℤ pos 1)) (first_fails _ _ (not_covered _ (same_cell refl (more_and_less c.y)))) a1.north a2.north)

  -- ---- the child faces are beside children, which are not of the finer level

  module _ (children : HasAllChildren fine) (m : Masses) (same : HasSameCells fine m) where
    free_child : (q : Cell) (a b : Bool) → q ≡ child_of c a b → IsFree p (suc l) m q
    free_child q a b e =
        let d = domain p (suc l) in
        let at : home_cell d q ≡ child_of c a b = ap (home_cell d) e ∙ child_of-home p l c a b inside in
        record {
          inside = ap (in_domain d) at ∙ in_domain-yes p (suc l) (child_of c a b) (child_of-inside p l c a b inside);
          none = ap (λ (r : Cell). is_some (m r)) at ∙ same.at (child_of c a b) ∙ alike fine children (child_of c a b) ∙ ap (is_covered fine) (parent_of c a b) ∙ free;
        }

  -- so what flows through them in a step of finer levels are the own fluxes of the first of these
  pub own_round : (children : HasAllChildren fine) (ks : List Level) (old : Masses) → AreLevels p (suc l) ks → 0 < length ks → HasSameCells fine (first_of (masses_of ks))
      → AgreesRound c (step p (suc l) (masses_of ks) old).fluxes (flux_at p (suc l) (first_of (masses_of ks)) old)
  own_round children ks old a some same =
      let x2 = c.x +ℤ c.x in
      let y2 = c.y +ℤ c.y in
      let x4 = (c.x +ℤ pos 1) +ℤ (c.x +ℤ pos 1) in
      let y4 = (c.y +ℤ pos 1) +ℤ (c.y +ℤ pos 1) in
      let child : (q : Cell) (a b : Bool) → q ≡ child_of c a b → IsFree p (suc l) (first_of (masses_of ks)) q = free_child children (first_of (masses_of ks)) same in
      let low : (g : Face) → IsFree p (suc l) (first_of (masses_of ks)) (low_cell g) → (step p (suc l) (masses_of ks) old).fluxes g ≡ flux_at p (suc l) (first_of (masses_of ks)) old g = λ g h. own_low p (suc l) ks old g a some h in
      let high : (g : Face) → IsFree p (suc l) (first_of (masses_of ks)) (high_cell g) → (step p (suc l) (masses_of ks) old).fluxes g ≡ flux_at p (suc l) (first_of (masses_of ks)) old g = λ g h. own_high p (suc l) ks old g a some h in
      record {
        west = λ i. high (face X x2 y2) (child _ false false (same_cell (none x2) (none y2))) i +ℤ high (face X x2 (y2 +ℤ pos 1)) (child _ false true (same_cell (none x2) refl)) i;
        east = λ i. low (face X x4 y2) (child _ true false (same_cell (before_double c.x) (none y2))) i +ℤ low (face X x4 (y2 +ℤ pos 1)) (child _ true true (same_cell (before_double c.x) refl)) i;
        south = λ i. high (face Y x2 y2) (child _ false false (same_cell (none x2) (none y2))) i +ℤ high (face Y (x2 +ℤ pos 1) y2) (child _ true false (same_cell refl (none y2))) i;
        north = λ i. low (face Y x2 y4) (child _ false true (same_cell (none x2) (before_double c.y))) i +ℤ low (face Y (x2 +ℤ pos 1) y4) (child _ true true (same_cell refl (before_double c.y))) i;
      }
