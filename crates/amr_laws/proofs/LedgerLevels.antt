-- The ledger's row of a step, as the sum over all levels and their steps.
use Rattle.std.proofs.Common.{◌≡◌, ℕ, zero, suc, ◌+◌, ◌-◌, ◌<◌, Bool, true, false, cond, ℤ, pos, ◌-ℤ◌, is_some, refl, sym, ap, ◌∙◌, arith, List, [], ◌∷◌, length}
use Rattle.std.proofs.lemmas.Int.{ints}
use Rattle.amr_box.specs.declared.Cell.{Cell}
use Rattle.amr_box.specs.declared.Axis.TheVariants.{X, Y}
use Rattle.amr_box.specs.Cells.{at_least_zero, cell}
use Rattle.amr_box.proofs.CellEquality.{same_cell}
use Rattle.amr_def.specs.declared.problem.Problem.{Problem}
use Rattle.amr_def.specs.declared.problem.Row.{Row}
use Rattle.amr_def.specs.declared.problem.Sides.{Sides}
use Rattle.amr_def.specs.declared.problem.Sides.TheVariants.{Periodic, Open}
use Rattle.amr_def.specs.Domain.{columns, rows}
use Rattle.amr_def.specs.State.{Level, Masses, State, no_masses}
use Rattle.amr_def.specs.Flux.{Fluxes, face, flux_at}
use Rattle.amr_def.specs.LevelStep.{at_top, effective, no_fluxes, over_finer, step_within}
use Rattle.amr_def.specs.Ledger.{below_zero, if_open, inflow, outflow, sum_to, x_through, y_through}
use Rattle.amr_def.specs.Laws.{step_fluxes}
use Rattle.amr_def.specs.Facts.{IsSound}
use Rattle.amr_def.proofs.LevelLists.{IsInside, IsNest, IsWhole, Nested, Synced}
use Rattle.amr_def.proofs.Courants.{power_positive, some_columns, stable}
use Rattle.amr_def.proofs.Subcycle.{SameCells, nested_same, step-kept}
use Rattle.amr_def.proofs.Chain.{chain_first, state_chain}
use Rattle.amr_def.proofs.Stepping.{chain_lists, masses_in, whole}
use Rattle.amr_laws.specs.Levels.{masses_of}
use Rattle.amr_laws.specs.Sides.{inflow_beside, is_uncovered, outflow_beside, over_levels, x_beside, y_beside}
use Rattle.amr_laws.proofs.Signs.{AllSigned, step_signed}
use Rattle.amr_laws.proofs.Sides.{inflow_parts, outflow_parts, sum_add, sum_same}

-- ---- level by level

-- the cells of the coarsest of some levels
abbrev pub cells_first : List Masses → Cell → Bool
cells_first [] c = false
cells_first (m ∷ ms) c = is_some (m c)

cells_same : (ms ms' : List Masses) → SameCells ms ms' → cells_first ms' ≡ cells_first ms
cells_same [] [] same = refl
cells_same [] (m' ∷ ms') same = absurd same
cells_same (m ∷ ms) [] same = absurd same
cells_same (m ∷ ms) (m' ∷ ms') same = λ i c. same.0.at c i

-- flows through sides, which are none where nothing flows, and those of a level over finer ones are the parts
pub record IsOfParts (p : Problem) (flows : ℕ → (Cell → Bool) → Fluxes → ℕ) : Type 0 where
  pub none : (l : ℕ) (counts : Cell → Bool) → flows l counts no_fluxes ≡ 0
  pub parts : (l : ℕ) (m old fine : Masses) (e1 e2 : Fluxes) → IsInside p l m → IsNest p l m fine → AllSigned p (suc l) e1 → AllSigned p (suc l) e2
      → flows l (λ c. is_some (m c)) (effective p l m old fine e1 e2) ≡ flows l (is_uncovered m fine) (flux_at p l m old) + (flows (suc l) (λ c. is_some (fine c)) e1 + flows (suc l) (λ c. is_some (fine c)) e2)

module _ (p : Problem) (flows : ℕ → (Cell → Bool) → Fluxes → ℕ) (of_parts : IsOfParts p flows) where
  pub by_levels : (n l : ℕ) (ms : List Masses) (old : Masses) → Nested p l ms → Synced ms → flows l (cells_first ms) (step_within p n l ms old).fluxes ≡ over_levels flows p n l ms old
  unfolding step_within over_finer at_top over_levels
  by_levels zero l ms old nested synced = of_parts.none l (cells_first ms)
  by_levels (suc n) l [] old nested synced = of_parts.none l (cells_first [])
  by_levels (suc n) l (m ∷ []) old nested synced = refl
  by_levels (suc n) l (m ∷ fine ∷ finer) old nested synced =
      let first = step_within p n (suc l) (fine ∷ finer) m in
      let second = step_within p n (suc l) first.levels m in
      let kept = step-kept p n (suc l) (fine ∷ finer) m (stable p) nested.2 synced.1 in
      let one = by_levels n (suc l) (fine ∷ finer) m nested.2 synced.1 in
      let two = by_levels n (suc l) first.levels m (nested_same p (suc l) (fine ∷ finer) first.levels kept.same nested.2) kept.synced in
      let again : flows (suc l) (cells_first (fine ∷ finer)) second.fluxes ≡ over_levels flows p n (suc l) first.levels m = sym (ap (λ (t : Cell → Bool). flows (suc l) t second.fluxes) (cells_same (fine ∷ finer) first.levels kept.same)) ∙ two in
      of_parts.parts l m old fine first.fluxes second.fluxes nested.0 nested.1 (step_signed p n (suc l) (fine ∷ finer) m) (step_signed p n (suc l) first.levels m)
      ∙ (λ i. flows l (is_uncovered m fine) (flux_at p l m old) + (one i + again i))

-- ---- inflow and outflow

nothing_counted : (counts : ℕ → Bool) (q : ℕ) (n : ℕ) → q ≡ 0 → sum_to (λ i. cond (counts i) q 0) n ≡ 0
nothing_counted counts q zero h = refl
nothing_counted counts q (suc n) h = omega (arith, nothing_counted counts q n h, one (counts n))
  where
    one : (t : Bool) → cond t q 0 ≡ 0
    one true = h
    one false = refl

no_open : (s : Sides) (n : ℕ) → n ≡ 0 → if_open s n ≡ 0
no_open Periodic n h = refl
no_open (Open low high) n h = h

module _ (p : Problem) where
  none_x : (l : ℕ) (counts : Cell → Bool) (low high : ℤ → ℕ) → low (pos 0) ≡ 0 → high (pos 0) ≡ 0 → x_beside p l counts low high no_fluxes ≡ 0
  none_x l counts low high h k = omega (
    arith,
    nothing_counted (λ y. counts (cell (pos 0) (pos y))) (low (pos 0)) (rows p l) h,
    nothing_counted (λ y. counts (cell (pos (columns p l) -ℤ pos 1) (pos y))) (high (pos 0)) (rows p l) k,
  )

  none_y : (l : ℕ) (counts : Cell → Bool) (low high : ℤ → ℕ) → low (pos 0) ≡ 0 → high (pos 0) ≡ 0 → y_beside p l counts low high no_fluxes ≡ 0
  none_y l counts low high h k = omega (
    arith,
    nothing_counted (λ x. counts (cell (pos x) (pos 0))) (low (pos 0)) (columns p l) h,
    nothing_counted (λ x. counts (cell (pos x) (pos (rows p l) -ℤ pos 1))) (high (pos 0)) (columns p l) k,
  )

  some_x : (l : ℕ) → 0 < columns p l
  some_x l = power_positive p.nx l (some_columns p).x

  some_y : (l : ℕ) → 0 < rows p l
  some_y l = power_positive p.ny l (some_columns p).y

  no_inflow : (l : ℕ) (counts : Cell → Bool) → inflow_beside p l counts no_fluxes ≡ 0
  unfolding inflow_beside
  no_inflow l counts = omega (arith, no_open p.x_sides _ (none_x l counts at_least_zero below_zero refl refl), no_open p.y_sides _ (none_y l counts at_least_zero below_zero refl refl))

  inflow_of_parts : IsOfParts p (inflow_beside p)
  inflow_of_parts = record {
    none = no_inflow;
    parts = λ l m old fine e1 e2 inside nest all1 all2. inflow_parts p l m old fine e1 e2 inside nest all1 all2 (some_x l) (some_y l);
  }

  no_outflow : (l : ℕ) (counts : Cell → Bool) → outflow_beside p l counts no_fluxes ≡ 0
  unfolding outflow_beside
  no_outflow l counts = omega (arith, no_open p.x_sides _ (none_x l counts below_zero at_least_zero refl refl), no_open p.y_sides _ (none_y l counts below_zero at_least_zero refl refl))

  outflow_of_parts : IsOfParts p (outflow_beside p)
  outflow_of_parts = record {
    none = no_outflow;
    parts = λ l m old fine e1 e2 inside nest all1 all2. outflow_parts p l m old fine e1 e2 inside nest all1 all2 (some_x l) (some_y l);
  }

-- ---- level 0, whose cells are all there

all_counted : (counts : ℕ → Bool) (q : ℕ → ℕ) (n : ℕ) → ((i : ℕ) → i < n → counts i ≡ true) → sum_to (λ i. cond (counts i) (q i) 0) n ≡ sum_to q n
all_counted counts q n h = sum_same (λ i. cond (counts i) (q i) 0) q n (λ i k. ap (λ (t : Bool). cond t (q i) 0) (h i k))

module _ (p : Problem) (m : Masses) (all : IsWhole p m) (e : Fluxes) where
  last_is : (n : ℕ) → 0 < n → pos n -ℤ pos 1 ≡ pos (n - 1)
  last_is n some = omega (arith, ints)

  east_there : (y : ℕ) → y < rows p 0 → is_some (m (cell (pos (columns p 0) -ℤ pos 1) (pos y))) ≡ true
  east_there y h =
      let some = some_x p 0 in
      ap (λ (c : Cell). is_some (m c)) (same_cell (last_is (columns p 0) some) refl) ∙ all.at (columns p 0 - 1) y (omega (arith, some)) h

  north_there : (x : ℕ) → x < columns p 0 → is_some (m (cell (pos x) (pos (rows p 0) -ℤ pos 1))) ≡ true
  north_there x h =
      let some = some_y p 0 in
      ap (λ (c : Cell). is_some (m c)) (same_cell refl (last_is (rows p 0) some)) ∙ all.at x (rows p 0 - 1) h (omega (arith, some))

  x_whole : (low high : ℤ → ℕ) → x_beside p 0 (λ c. is_some (m c)) low high e ≡ x_through p low high e
  x_whole low high = omega (
    arith,
    all_counted (λ y. is_some (m (cell (pos 0) (pos y)))) (λ y. low (e (face X (pos 0) (pos y)))) (rows p 0) (λ y h. all.at 0 y (some_x p 0) h),
    all_counted (λ y. is_some (m (cell (pos (columns p 0) -ℤ pos 1) (pos y)))) (λ y. high (e (face X (pos (columns p 0)) (pos y)))) (rows p 0) east_there,
    sum_add (λ y. low (e (face X (pos 0) (pos y)))) (λ y. high (e (face X (pos (columns p 0)) (pos y)))) (rows p 0),
  )

  y_whole : (low high : ℤ → ℕ) → y_beside p 0 (λ c. is_some (m c)) low high e ≡ y_through p low high e
  y_whole low high = omega (
    arith,
    all_counted (λ x. is_some (m (cell (pos x) (pos 0)))) (λ x. low (e (face Y (pos x) (pos 0)))) (columns p 0) (λ x h. all.at x 0 h (some_y p 0)),
    all_counted (λ x. is_some (m (cell (pos x) (pos (rows p 0) -ℤ pos 1)))) (λ x. high (e (face Y (pos x) (pos (rows p 0))))) (columns p 0) north_there,
    sum_add (λ x. low (e (face Y (pos x) (pos 0)))) (λ x. high (e (face Y (pos x) (pos (rows p 0))))) (columns p 0),
  )

  inflow_whole : inflow p e ≡ inflow_beside p 0 (λ c. is_some (m c)) e
  unfolding inflow inflow_beside
  inflow_whole = sym (λ i. if_open p.x_sides (x_whole at_least_zero below_zero i) + if_open p.y_sides (y_whole at_least_zero below_zero i))

  outflow_whole : outflow p e ≡ outflow_beside p 0 (λ c. is_some (m c)) e
  unfolding outflow outflow_beside
  outflow_whole = sym (λ i. if_open p.x_sides (x_whole below_zero at_least_zero i) + if_open p.y_sides (y_whole below_zero at_least_zero i))

-- ---- the step from a sound state

from_levels : (p : Problem) (n : ℕ) (rs : List Row) (ks : List Level) → let s : State = record { step = n; rows = rs; levels = ks } in IsSound p s
    → (inflow p (step_fluxes p s) ≡ over_levels (inflow_beside p) p (length (masses_in ks)) 0 (masses_in ks) no_masses) × (outflow p (step_fluxes p s) ≡ over_levels (outflow_beside p) p (length (masses_in ks)) 0 (masses_in ks) no_masses)
from_levels p n rs [] sound = absurd (omega (arith, sound.some_level))
from_levels p n rs (k ∷ ks) sound =
    let s : State = record { step = n; rows = rs; levels = k ∷ ks } in
    let links = state_chain p s sound.nested sound.synced in
    let lists = chain_lists p 0 (k ∷ ks) links in
    let all : IsWhole p k.masses = whole p k (chain_first p 0 k ks links) sound.base in (
      inflow_whole p k.masses all (step_fluxes p s) ∙ by_levels p (inflow_beside p) (inflow_of_parts p) (length (masses_in (k ∷ ks))) 0 (masses_in (k ∷ ks)) no_masses lists.0 lists.1,
      outflow_whole p k.masses all (step_fluxes p s) ∙ by_levels p (outflow_beside p) (outflow_of_parts p) (length (masses_in (k ∷ ks))) 0 (masses_in (k ∷ ks)) no_masses lists.0 lists.1,
    )

pub inflow_levels : (p : Problem) (s : State) → IsSound p s → inflow p (step_fluxes p s) ≡ over_levels (inflow_beside p) p (length (masses_of s.levels)) 0 (masses_of s.levels) no_masses
inflow_levels p s sound = (from_levels p s.step s.rows s.levels sound).0

pub outflow_levels : (p : Problem) (s : State) → IsSound p s → outflow p (step_fluxes p s) ≡ over_levels (outflow_beside p) p (length (masses_of s.levels)) 0 (masses_of s.levels) no_masses
outflow_levels p s sound = (from_levels p s.step s.rows s.levels sound).1
