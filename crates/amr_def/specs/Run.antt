-- Runs: the start, a step of a state, and the state at a step.
use Rattle.std.specs.Prelude.{ℕ, zero, suc, ◌+◌, ◌-◌, ◌%◌, Bool, cond, ◌&&◌, pos, List, [], ◌∷◌, ◌++◌, map, nat_lt, ◌==◌}
use Rattle.std.specs.declared.option.Option.TheVariants.{None, Some}
use Rattle.std.specs.List.{fold}
use Rattle.amr_box.specs.declared.Cell.{Cell}
use Rattle.amr_box.specs.Cells.{cell, extent, Extent, holds}
use Rattle.amr_def.specs.declared.problem.Problem.{Problem}
use Rattle.amr_def.specs.declared.problem.Block.{Block}
use Rattle.amr_def.specs.Domain.{domain, domain_box}
use Rattle.amr_def.specs.State.{Masses, Level, State, no_masses}
use Rattle.amr_def.specs.LevelStep.{step}
use Rattle.amr_def.specs.Ledger.{total_mass, row_after}
use Rattle.amr_def.specs.Regrid.{regrid}

-- ---- a step of a state

abbrev pub with_masses : List Level → List Masses → List Level
with_masses [] ms = []
with_masses (k ∷ ks) [] = []
with_masses (k ∷ ks) (m ∷ ms) = record { boxes = k.boxes; masses = m } ∷ with_masses ks ms

-- the level step from level 0, and one more row of the ledger
unfoldable pub stepped : Problem → State → State
stepped p s =
    let r = step p 0 (map (λ k. k.masses) s.levels) no_masses in
    record { step = s.step + 1; rows = s.rows ++ row_after p r ∷ []; levels = with_masses s.levels r.levels }

abbrev pub regrid_is_due : Problem → State → Bool
regrid_is_due p s = nat_lt 0 s.step && ((s.step % p.regrid_int) == 0)

-- a state is regridded, where that is due, before the step is made from it
unfoldable pub next : Problem → State → State
next p s = stepped p (cond (regrid_is_due p s) (regrid p s) s)

-- ---- runs

abbrev pub times : {A : Type 0} → (A → A) → ℕ → A → A
times f zero a = a
times f (suc n) a = times f n (f a)

-- the further steps up to step k
unfoldable pub finish : Problem → State → ℕ → State
finish p s k = times (next p) (k - s.step) s

abbrev pub block_extent : Block → Extent
block_extent b = extent (cell (pos b.x0) (pos b.y0)) (cell (pos b.x1) (pos b.y1))

-- the mass of the last block that holds a cell, or 0
abbrev pub block_mass : List Block → Cell → ℕ
block_mass bs c = fold (λ m b. cond (holds (block_extent b) c) b.mass m) 0 bs

-- level 0 with the masses of the blocks
abbrev pub base_level : Problem → Level
base_level p =
    let whole = domain_box (domain p 0) in
    record { boxes = whole ∷ []; masses = λ c. cond (holds whole c) (Some (block_mass p.blocks c)) None }

-- level 0 alone, and row 0 of the ledger
abbrev pub plain_start : Problem → State
plain_start p = record { step = 0; rows = record { mass = total_mass p (base_level p).masses; inflow = 0; outflow = 0 } ∷ []; levels = base_level p ∷ [] }

-- each regrid may add a level
unfoldable pub start : Problem → State
start p = times (regrid p) p.max_level (plain_start p)

unfoldable pub run : Problem → ℕ → State
run p k = finish p (start p) k
