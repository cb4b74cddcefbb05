-- Steps of levels, and what flows through child faces.
use Rattle.std.proofs.Common.{◌≡◌, ℕ, suc, ◌*◌, ◌/◌, false, ℤ, pos, negsuc, ◌+ℤ◌, ◌-ℤ◌, ◌≤ℤ◌, neg_ℤ, IsSome, subst, arith, List, [], ◌∷◌, length}
use Rattle.std.specs.Prelude.{unsigned_abs}
use Rattle.std.proofs.lemmas.Int.{ints}
use Rattle.amr_box.specs.declared.Cell.{Cell}
use Rattle.amr_box.specs.declared.Face.{Face}
use Rattle.amr_box.specs.declared.Axis.{Axis}
use Rattle.amr_box.specs.declared.Axis.TheVariants.{X, Y}
use Rattle.amr_def.specs.declared.problem.Problem.{Problem}
use Rattle.amr_def.specs.Domain.{domain, home_cell}
use Rattle.amr_def.specs.State.{Masses, Level, is_covered, mass_of}
use Rattle.amr_def.specs.Flux.{Fluxes, face, low_cell, high_cell, courant, flow, flux_at, net}
use Rattle.amr_def.specs.LevelStep.{effective, Stepped, step}
use Rattle.amr_def.specs.Ledger.{first_of}
use Rattle.amr_def.proofs.Courants.{stable, courant_x_first, courant_x_second, courant_y_first, courant_y_second}
use Rattle.amr_def.proofs.Ghosts.{LeavesHigh, LeavesLow, flow_leaves_high, flow_leaves_low, four_leave_high, four_leave_low}
use Rattle.amr_def.proofs.TwoLevels.{refluxed}
use Rattle.amr_def.proofs.Subcycle.{KeepsLevels, step-kept, cond_none}
use Rattle.amr_def.proofs.Chain.{Chain}
use Rattle.amr_def.proofs.Stepping.{masses_in, chain_lists}
use Rattle.amr_laws.specs.Levels.{AreLevels}
use Rattle.amr_laws.specs.Laws.{first_child_face, second_child_face, four_fluxes, face_share}

-- ---- exact

pub links : (p : Problem) (l : ℕ) (ks : List Level) → AreLevels p l ks → Chain p l ks
links p l [] a = tt
links p l (k ∷ []) a = a
links p l (k ∷ fine ∷ finer) a = (a.0, a.1, record { at = a.2 }, links p (suc l) (fine ∷ finer) a.3)

pub exact : (p : Problem) (l : ℕ) (ks : List Level) (k : Level) (old : Masses) (c : Cell) → AreLevels p l (k ∷ ks) → IsSome (k.masses c)
    → let r : Stepped = step p l (k.masses ∷ masses_in ks) old in pos (mass_of (first_of r.levels) c) ≡ pos (mass_of k.masses c) +ℤ net r.fluxes c
exact p l ks k old c levels there =
    let lists = chain_lists p l (k ∷ ks) (links p l (k ∷ ks) levels) in
    let r : Stepped = step p l (k.masses ∷ masses_in ks) old in
    by_head r.levels r.fluxes (step-kept p (length (masses_in (k ∷ ks))) l (masses_in (k ∷ ks)) old (stable p) lists.0 lists.1)
  where
    by_head : (ms : List Masses) (e : Fluxes) → KeepsLevels p l (masses_in (k ∷ ks)) old ms e → pos (mass_of (first_of ms) c) ≡ pos (mass_of k.masses c) +ℤ net e c
    by_head [] e x = absurd x.same
    by_head (m ∷ ms) e x = x.head.exact c there

-- ---- four fluxes

within_share : (n : ℤ) (d v : ℕ) (z : ℤ) → LeavesHigh n d v z → z ≤ℤ pos (unsigned_abs n * v / d)
within_share (pos a) d v z h = h
within_share (negsuc a) d v z h = omega (arith, ints, h)

within_share_low : (n : ℤ) (d v : ℕ) (z : ℤ) → LeavesLow n d v z → neg_ℤ (pos (unsigned_abs n * v / d)) ≤ℤ z
within_share_low (pos a) d v z h = omega (arith, ints, h)
within_share_low (negsuc a) d v z h = h

first_courant : (p : Problem) (l : ℕ) (a : Axis) (x y : ℤ) → courant p (suc l) (first_child_face (face a x y)) ≡ courant p l (face a x y)
first_courant p l X x y = courant_x_first p l x (x +ℤ x) y y
first_courant p l Y x y = courant_y_first p l x x y (y +ℤ y)

second_courant : (p : Problem) (l : ℕ) (a : Axis) (x y : ℤ) → courant p (suc l) (second_child_face (face a x y)) ≡ courant p l (face a x y)
second_courant p l X x y = courant_x_second p l x (x +ℤ x) y y
second_courant p l Y x y = courant_y_second p l x x y (y +ℤ y)

module _ (p : Problem) (l : ℕ) (f : Face) (m : ℕ) (other : ℕ → ℕ) where
  n : ℤ
  n = courant p l f

  first : courant p (suc l) (first_child_face f) ≡ n
  unfolding n
  first = first_courant p l f.axis f.x f.y

  second : courant p (suc l) (second_child_face f) ≡ n
  unfolding n
  second = second_courant p l f.axis f.x f.y

  high : (c : ℤ) → c ≡ n → (k : ℕ) → LeavesHigh n p.d (m / 4) (flow c p.d (m / 4) k)
  high c e k = subst (λ (t : ℤ). LeavesHigh t p.d (m / 4) (flow c p.d (m / 4) k)) e (flow_leaves_high c p.d (m / 4) k)

  low : (c : ℤ) → c ≡ n → (k : ℕ) → LeavesLow n p.d (m / 4) (flow c p.d k (m / 4))
  low c e k = subst (λ (t : ℤ). LeavesLow t p.d (m / 4) (flow c p.d k (m / 4))) e (flow_leaves_low c p.d k (m / 4))

  pub four_within : (four_fluxes p l f (λ i. (m / 4, other i)) ≤ℤ pos (face_share p l f m)) × (neg_ℤ (pos (face_share p l f m)) ≤ℤ four_fluxes p l f (λ i. (other i, m / 4)))
  unfolding n
  four_within =
      let some = (stable p).some in (
        within_share (courant p l f) p.d m _ (four_leave_high (courant p l f) p.d m _ _ _ _ some (high _ first (other 0)) (high _ second (other 1)) (high _ first (other 2)) (high _ second (other 3))),
        within_share_low (courant p l f) p.d m _ (four_leave_low (courant p l f) p.d m _ _ _ _ some (low _ first (other 0)) (low _ second (other 1)) (low _ first (other 2)) (low _ second (other 3))),
      )

-- ---- registers

pub reflux : (p : Problem) (l : ℕ) (m old fine : Masses) (e1 e2 : Fluxes) (c : Cell)
    → (pos (mass_of m c) +ℤ net (flux_at p l m old) c) +ℤ net (λ f. effective p l m old fine e1 e2 f -ℤ flux_at p l m old f) c ≡ pos (mass_of m c) +ℤ net (effective p l m old fine e1 e2) c
reflux p l m old fine e1 e2 c = refluxed (mass_of m c) (flux_at p l m old) (effective p l m old fine e1 e2) c

pub beside : (p : Problem) (l : ℕ) (m old fine : Masses) (e1 e2 : Fluxes) (f : Face) → is_covered fine (home_cell (domain p l) (low_cell f)) ≡ false → is_covered fine (home_cell (domain p l) (high_cell f)) ≡ false → effective p l m old fine e1 e2 f ≡ flux_at p l m old f
unfolding effective
beside p l m old fine e1 e2 f low high = cond_none _ _ _ _ low high
