use Rattle.std.proofs.Common.{◌≡◌, ◌∙◌, ◌∷◌, [], List, ℕ, map, sym, subst, ap, rules, arith}
use Rattle.amr_def.specs.declared.problem.Row.{Row}
use Rattle.amr_def.specs.Facts.{IsSound}
use Rattle.amr_def.specs.Ledger.{sum_to}
use Rattle.amr_def.specs.State.{State}
use Rattle.amr_box.specs.Cells.{Extent}
use Rattle.amr_def.proofs.SoundRun.{plain_start-sound}
use Rattle.amr_patch.specs.Levels.{level_of}
use Rattle.amr_start.specs.PatchBoxes.{IsBoxChopped}
use Rattle.amr_start.specs.Rows.{box_of, masses_on, row_mass_in}
use Rattle.amr_start.proofs.Bases.{base-state_with, whole_box}
use Rattle.amr_start.proofs.starts.base.Goals as goal

pub level_with-requires-clause-some_columns : goal.level_with-requires-clause-some_columns
level_with-requires-clause-some_columns c = omega (arith, c.args.p.now.limits.least_nx)

pub level_with-requires-clause-some_rows : goal.level_with-requires-clause-some_rows
level_with-requires-clause-some_rows c = omega (arith, c.args.p.now.limits.least_ny)

pub level_with-requires-clause-some : goal.level_with-requires-clause-some
level_with-requires-clause-some c = omega (arith, c.args.p.now.limits.least_max_grid_size)

pub returns-clause-value : goal.returns-clause-value
returns-clause-value c =
    let p = c.args.p.now in
    let ms = c.in_ok-masses.masses.items in
    let row : Row = record { mass = c.total_mass.result; inflow = 0; outflow = 0 } in
    let rows : c.in_ok-rows.rows.items ≡ row ∷ [] = search rules in
    let levels : c.in_ok-levels.levels.items ≡ c.in_ok-level.level ∷ [] = search rules in
    let mass = subst (λ (l : List ℕ). c.total_mass.result ≡ sum_to (row_mass_in p.nx l) p.ny) c.deref.ensures.value c.total_mass.ensures in
    let masses = c.in_ok-level.ensures.masses ∙ ap (λ (l : List ℕ). masses_on p.nx p.ny l) c.deref-2.ensures.value in
    let base : level_of c.in_ok-level.level ≡ record { boxes = box_of p.nx p.ny ∷ []; masses = masses_on p.nx p.ny ms } = λ i. record { boxes = c.in_ok-level.ensures.boxes i; masses = masses i } in
    c.of.ensures.state
    ∙ (λ i. record { step = 0; rows = rows i; levels = map level_of (levels i) })
    ∙ (λ i. record { step = 0; rows = row ∷ []; levels = base i ∷ [] })
    ∙ base-state_with p ms c.in_ok-masses.ensures c.total_mass.result mass

pub returns-clause-sound : goal.returns-clause-sound
returns-clause-sound c =
    let p = c.args.p.now in
    subst (λ (s : State). IsSound p s) (sym (returns-clause-value c)) (plain_start-sound p)

pub returns-clause-at_start : goal.returns-clause-at_start
returns-clause-at_start c = ap (λ (s : State). s.step) c.of.ensures.state

pub returns-clause-patches : goal.returns-clause-patches
returns-clause-patches c =
    let p = c.args.p.now in
    let levels : c.in_ok-levels.levels.items ≡ c.in_ok-level.level ∷ [] = search rules in
    record {
      base = c.in_ok-level.level;
      alone = c.of.ensures.levels ∙ levels;
      chopped = subst (λ (b : Extent). IsBoxChopped p.max_grid_size b c.in_ok-level.level) (sym (whole_box p)) c.in_ok-level.ensures.patches;
    }
