-- The ledger by levels: what flows through the open sides of the domain in all the steps that a step of a state is made of.
use Rattle.std.specs.Prelude.{ℕ, zero, suc, ◌+◌, Bool, cond, not, ◌&&◌, ℤ, pos, ◌-ℤ◌, List, [], ◌∷◌, is_some}
use Rattle.amr_box.specs.declared.Cell.{Cell}
use Rattle.amr_box.specs.declared.Axis.TheVariants.{X, Y}
use Rattle.amr_box.specs.Cells.{at_least_zero, cell}
use Rattle.amr_def.specs.declared.problem.Problem.{Problem}
use Rattle.amr_def.specs.Domain.{columns, rows}
use Rattle.amr_def.specs.State.{Masses, is_covered}
use Rattle.amr_def.specs.Flux.{Fluxes, face, flux_at}
use Rattle.amr_def.specs.LevelStep.{step_within}
use Rattle.amr_def.specs.Ledger.{below_zero, if_open, sum_to}

-- ---- through the faces of one level

-- at the ends of the x axis, beside cells of the level that count: the flow through the low end by `low` and that
-- through the high end by `high`
abbrev pub x_beside : Problem → ℕ → (Cell → Bool) → (ℤ → ℕ) → (ℤ → ℕ) → Fluxes → ℕ
x_beside p l counts low high e =
    sum_to (λ y. cond (counts (cell (pos 0) (pos y))) (low (e (face X (pos 0) (pos y)))) 0) (rows p l)
    + sum_to (λ y. cond (counts (cell (pos (columns p l) -ℤ pos 1) (pos y))) (high (e (face X (pos (columns p l)) (pos y)))) 0) (rows p l)

abbrev pub y_beside : Problem → ℕ → (Cell → Bool) → (ℤ → ℕ) → (ℤ → ℕ) → Fluxes → ℕ
y_beside p l counts low high e =
    sum_to (λ x. cond (counts (cell (pos x) (pos 0))) (low (e (face Y (pos x) (pos 0)))) 0) (columns p l)
    + sum_to (λ x. cond (counts (cell (pos x) (pos (rows p l) -ℤ pos 1))) (high (e (face Y (pos x) (pos (rows p l))))) 0) (columns p l)

-- what flows into the domain beside cells that count, and out of it
unfoldable pub inflow_beside : Problem → ℕ → (Cell → Bool) → Fluxes → ℕ
inflow_beside p l counts e =
    if_open p.x_sides (x_beside p l counts at_least_zero below_zero e) + if_open p.y_sides (y_beside p l counts at_least_zero below_zero e)

unfoldable pub outflow_beside : Problem → ℕ → (Cell → Bool) → Fluxes → ℕ
outflow_beside p l counts e =
    if_open p.x_sides (x_beside p l counts below_zero at_least_zero e) + if_open p.y_sides (y_beside p l counts below_zero at_least_zero e)

-- ---- over all levels

-- a cell of the level that no finer level covers
abbrev pub is_uncovered : Masses → Masses → Cell → Bool
is_uncovered m fine c = is_some (m c) && not (is_covered fine c)

-- of a step of at most n levels from l on: the flows of each level's own fluxes beside cells that no finer level covers,
-- in each of the steps that the level makes
unfoldable pub over_levels : (ℕ → (Cell → Bool) → Fluxes → ℕ) → Problem → ℕ → ℕ → List Masses → Masses → ℕ
over_levels flows p zero l ms old = 0
over_levels flows p (suc n) l [] old = 0
over_levels flows p (suc n) l (m ∷ []) old = flows l (λ c. is_some (m c)) (flux_at p l m old)
over_levels flows p (suc n) l (m ∷ fine ∷ finer) old =
    flows l (is_uncovered m fine) (flux_at p l m old)
    + (over_levels flows p n (suc l) (fine ∷ finer) m + over_levels flows p n (suc l) (step_within p n (suc l) (fine ∷ finer) m).levels m)
