-- A step of all levels conserves the mass of level 0 but for what flows through open sides.
use Rattle.std.proofs.Common.{◌≡◌, ℕ, zero, suc, ◌+◌, Bool, cond, ◌||◌, ℤ, pos, negsuc, ◌+ℤ◌, ◌-ℤ◌, refl, ap, arith, List, [], ◌∷◌}
use Rattle.std.proofs.lemmas.Int.{ints}
use Rattle.amr_box.specs.declared.Axis.TheVariants.{X, Y}
use Rattle.amr_box.specs.Cells.{cell}
use Rattle.amr_def.specs.declared.problem.Problem.{Problem}
use Rattle.amr_def.specs.declared.problem.Sides.TheVariants.{Periodic}
use Rattle.amr_def.proofs.Flows.{wrapped_end, wrapped_before}
use Rattle.amr_def.proofs.Conservation.{IsCovering, conserves}
use Rattle.amr_def.proofs.Values.{same_cell, flow_same, value_same}
use Rattle.amr_def.proofs.TwoLevels.{together}
use Rattle.amr_def.proofs.Courants.{twice_as_many, power_positive}
use Rattle.amr_def.proofs.Subcycle.{KeepsLevels, step-kept}
use Rattle.amr_def.specs.State.{Masses, is_covered, no_masses}
use Rattle.amr_def.specs.Flux.{Fluxes, face, courant, updated, flux_at}
use Rattle.amr_def.specs.Ledger.{first_of, total_mass, inflow, outflow}
use Rattle.amr_def.specs.Domain.{columns, rows, home_cell, domain}
use Rattle.amr_def.specs.LevelStep.{effective, through_children, at_top, over_finer, step_within, step}
use Rattle.amr_def.proofs.LevelLists.{IsWhole, IsStable, Nested, Synced, HasColumns}

-- the fluxes of a level at the two ends of a periodic axis
pub record Repeats (p : Problem) (l : ℕ) (e : Fluxes) : Type 0 where
  pub x : p.x_sides ≡ Periodic → (y : ℤ) → e (face X (pos (columns p l)) y) ≡ e (face X (pos 0) y)
  pub y : p.y_sides ≡ Periodic → (x : ℤ) → e (face Y x (pos (rows p l))) ≡ e (face Y x (pos 0))

module _ (p : Problem) (l : ℕ) (cells : HasColumns p) where
  end_x : p.x_sides ≡ Periodic → (y : ℤ) → home_cell (domain p l) (cell (pos (columns p l)) y) ≡ home_cell (domain p l) (cell (pos 0) y)
  end_x periodic y = same_cell (rw periodic (wrapped_end (columns p l))) refl

  before_end_x : p.x_sides ≡ Periodic → (y : ℤ) → home_cell (domain p l) (cell (pos (columns p l) -ℤ pos 1) y) ≡ home_cell (domain p l) (cell (negsuc 0) y)
  before_end_x periodic y = same_cell (rw periodic (wrapped_before (columns p l) (power_positive p.nx l cells.x))) refl

  end_y : p.y_sides ≡ Periodic → (x : ℤ) → home_cell (domain p l) (cell x (pos (rows p l))) ≡ home_cell (domain p l) (cell x (pos 0))
  end_y periodic x = same_cell refl (rw periodic (wrapped_end (rows p l)))

  before_end_y : p.y_sides ≡ Periodic → (x : ℤ) → home_cell (domain p l) (cell x (pos (rows p l) -ℤ pos 1)) ≡ home_cell (domain p l) (cell x (negsuc 0))
  before_end_y periodic x = same_cell refl (rw periodic (wrapped_before (rows p l) (power_positive p.ny l cells.y)))

  plain_repeats : (m old : Masses) → Repeats p l (flux_at p l m old)
  unfolding flux_at courant
  plain_repeats m old = record {
    x = λ periodic y. flow_same _ p.d (value_same p l m old _ _ (before_end_x periodic y)) (value_same p l m old _ _ (end_x periodic y));
    y = λ periodic x. flow_same _ p.d (value_same p l m old _ _ (before_end_y periodic x)) (value_same p l m old _ _ (end_y periodic x));
  }

  children_repeat_x : (e : Fluxes) → Repeats p (suc l) e → p.x_sides ≡ Periodic → (y : ℤ) → through_children e X (pos (columns p l)) y ≡ through_children e X (pos 0) y
  children_repeat_x e repeats periodic y =
      let n : pos (columns p (suc l)) ≡ pos (columns p l + columns p l) = ap pos (twice_as_many p.nx l) in
      omega (arith, ints, repeats.x periodic (y +ℤ y), repeats.x periodic (y +ℤ y +ℤ pos 1), ap (λ (z : ℤ). e (face X z (y +ℤ y))) n, ap (λ (z : ℤ). e (face X z (y +ℤ y +ℤ pos 1))) n)

  children_repeat_y : (e : Fluxes) → Repeats p (suc l) e → p.y_sides ≡ Periodic → (x : ℤ) → through_children e Y x (pos (rows p l)) ≡ through_children e Y x (pos 0)
  children_repeat_y e repeats periodic x =
      let n : pos (rows p (suc l)) ≡ pos (rows p l + rows p l) = ap pos (twice_as_many p.ny l) in
      omega (arith, ints, repeats.y periodic (x +ℤ x), repeats.y periodic (x +ℤ x +ℤ pos 1), ap (λ (z : ℤ). e (face Y (x +ℤ x) z)) n, ap (λ (z : ℤ). e (face Y (x +ℤ x +ℤ pos 1) z)) n)

  chosen_same : {a a' b b' : Bool} {x x' y y' : ℤ} → a ≡ a' → b ≡ b' → x ≡ x' → y ≡ y' → cond (a || b) x y ≡ cond (a' || b') x' y'
  chosen_same ea eb ex ey i = cond (ea i || eb i) (ex i) (ey i)

  together_repeats : (m old fine : Masses) (e1 e2 : Fluxes) → Repeats p (suc l) e1 → Repeats p (suc l) e2 → Repeats p l (together p l m old fine e1 e2)
  unfolding effective
  together_repeats m old fine e1 e2 r1 r2 = record {
    x = λ periodic y. chosen_same (ap (is_covered fine) (before_end_x periodic y)) (ap (is_covered fine) (end_x periodic y))
        (omega (arith, ints, children_repeat_x e1 r1 periodic y, children_repeat_x e2 r2 periodic y)) ((plain_repeats m old).x periodic y);
    y = λ periodic x. chosen_same (ap (is_covered fine) (before_end_y periodic x)) (ap (is_covered fine) (end_y periodic x))
        (omega (arith, ints, children_repeat_y e1 r1 periodic x, children_repeat_y e2 r2 periodic x)) ((plain_repeats m old).y periodic x);
  }

step-repeats : (p : Problem) (n l : ℕ) (ms : List Masses) (old : Masses) → HasColumns p → Repeats p l (step_within p n l ms old).fluxes
unfolding step_within over_finer at_top
step-repeats p zero l ms old cells = record { x = λ h y. refl; y = λ h x. refl }
step-repeats p (suc n) l [] old cells = record { x = λ h y. refl; y = λ h x. refl }
step-repeats p (suc n) l (m ∷ []) old cells = plain_repeats p l cells m old
step-repeats p (suc n) l (m ∷ fine ∷ finer) old cells =
    together_repeats p l cells m old fine _ _ (step-repeats p n (suc l) (fine ∷ finer) m cells) (step-repeats p n (suc l) _ m cells)

-- the masses of the coarsest level after a step are its masses and what came into its cells
pub head_updated : (p : Problem) (n l : ℕ) (m : Masses) (finer : List Masses) (old : Masses) → first_of (step_within p (suc n) l (m ∷ finer) old).levels ≡ updated m (step_within p (suc n) l (m ∷ finer) old).fluxes
unfolding step_within over_finer at_top
head_updated p n l m [] old = refl
head_updated p n l m (fine ∷ finer) old = refl

covering : (p : Problem) (m : Masses) (ms ms' : List Masses) (e : Fluxes) → IsWhole p m → KeepsLevels p 0 (m ∷ ms) no_masses ms' e → IsCovering p m e
covering p m ms [] e whole kept = absurd kept.same
covering p m ms (m' ∷ ms') e whole kept = record { at = λ x y hx hy. omega (arith, ints, kept.head.exact (cell (pos x) (pos y)) (whole.at x y hx hy)) }

-- the mass of level 0 after a step of all levels, and what went out, are the mass before it and what came in
pub step-telescopes : (p : Problem) (m : Masses) (finer : List Masses) → IsStable p → HasColumns p → Nested p 0 (m ∷ finer) → Synced (m ∷ finer) → IsWhole p m
    → total_mass p (updated m (step p 0 (m ∷ finer) no_masses).fluxes) + outflow p (step p 0 (m ∷ finer) no_masses).fluxes ≡ total_mass p m + inflow p (step p 0 (m ∷ finer) no_masses).fluxes
step-telescopes p m finer stable cells nested synced whole =
    let kept = step-kept p _ 0 (m ∷ finer) no_masses stable nested synced in
    let repeats = step-repeats p _ 0 (m ∷ finer) no_masses cells in
    conserves p m _ whole (covering p m finer _ _ whole kept) (record { x = λ h y. repeats.x h (pos y); y = λ h x. repeats.y h (pos x) })
