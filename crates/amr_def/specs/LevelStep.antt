-- A step of a level and of those finer than it, each of which makes two steps for one of the coarser
-- level. (Berger and Colella; their correction at coarse-fine edges is said as one effective flux)
use Rattle.std.specs.Prelude.{ℕ, zero, suc, cond, ◌||◌, ℤ, pos, ◌+ℤ◌, List, [], ◌∷◌, length}
use Rattle.amr_box.specs.declared.Axis.{Axis}
use Rattle.amr_box.specs.declared.Axis.TheVariants.{X, Y}
use Rattle.amr_def.specs.declared.problem.Problem.{Problem}
use Rattle.amr_def.specs.Domain.{domain, home_cell}
use Rattle.amr_def.specs.State.{Masses, is_covered}
use Rattle.amr_def.specs.Flux.{Fluxes, face, low_cell, high_cell, flux_at, updated}

-- what flows through the two child faces of a face
abbrev pub through_children : Fluxes → Axis → ℤ → ℤ → ℤ
through_children e X x y = e (face X (x +ℤ x) (y +ℤ y)) +ℤ e (face X (x +ℤ x) (y +ℤ y +ℤ pos 1))
through_children e Y x y = e (face Y (x +ℤ x) (y +ℤ y)) +ℤ e (face Y (x +ℤ x +ℤ pos 1) (y +ℤ y))

-- the flux of a face; where a cell beside it is covered, what flowed through its child faces in both
-- finer steps
unfoldable pub effective : Problem → ℕ → Masses → Masses → Masses → Fluxes → Fluxes → Fluxes
effective p l m old fine e1 e2 f =
    cond (is_covered fine (home_cell (domain p l) (low_cell f)) || is_covered fine (home_cell (domain p l) (high_cell f)))
    (through_children e1 f.axis f.x f.y +ℤ through_children e2 f.axis f.x f.y)
    (flux_at p l m old f)

-- the new masses of a level and of those finer than it, and the fluxes of the level
pub record Stepped : Type 0 where
  pub levels : List Masses
  pub fluxes : Fluxes

abbrev pub no_fluxes : Fluxes
no_fluxes f = pos 0

unfoldable pub at_top : Problem → ℕ → Masses → Masses → Stepped
at_top p l m old =
    let e : Fluxes = flux_at p l m old in
    record { levels = updated m e ∷ []; fluxes = e }

-- a level whose finer levels made two steps, the first and then the second
unfoldable pub over_finer : Problem → ℕ → Masses → Masses → Masses → Stepped → Stepped → Stepped
over_finer p l m old fine first second =
    let e : Fluxes = effective p l m old fine first.fluxes second.fluxes in
    record { levels = updated m e ∷ second.levels; fluxes = e }

-- a step of at most n levels, from l on, the coarsest first; `old` is what the next coarser one than l held at
-- the start of its step. The second of the finer steps is made from what the first left, and both take
-- their ghost cells from the coarser masses before the step.
unfoldable pub step_within : Problem → ℕ → ℕ → List Masses → Masses → Stepped
step_within p zero l ms old = record { levels = ms; fluxes = no_fluxes }
step_within p (suc n) l [] old = record { levels = []; fluxes = no_fluxes }
step_within p (suc n) l (m ∷ []) old = at_top p l m old
step_within p (suc n) l (m ∷ fine ∷ finer) old =
    let first = step_within p n (suc l) (fine ∷ finer) m in
    let second = step_within p n (suc l) first.levels m in
    over_finer p l m old fine first second

abbrev pub step : Problem → ℕ → List Masses → Masses → Stepped
step p l ms old = step_within p (length ms) l ms old
