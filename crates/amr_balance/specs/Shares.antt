-- Tasks shared out among workers: each task in turn to the worker with the least to do, the lowest number on a tie
-- (list scheduling; Graham 1966).
use Rattle.std.specs.Prelude.{◌≡◌, ℕ, zero, suc, ◌+◌, ◌*◌, ◌-◌, ◌<◌, ◌≤◌, ◌==◌, List, [], ◌∷◌, ◌++◌, length}
use Rattle.std.specs.Prelude.{max, slice_index, slice_index_or, map, sum, if◌then◌else◌}
use Rattle.std.specs.Global.{Vec}

-- which worker has each task
abbrev pub Owner : Type 0
Owner = ℕ → ℕ

-- of the first n tasks those that are a worker's, in order
abbrev pub tasks_of : Owner → ℕ → ℕ → List ℕ
tasks_of owner w zero = []
tasks_of owner w (suc n) = tasks_of owner w n ++ (if owner n == w then n ∷ [] else [])

-- the areas of these tasks together: what the worker has to do
abbrev pub load : List ℕ → Owner → ℕ → ℕ → ℕ
load areas owner n w = sum (map (slice_index areas) (tasks_of owner w n))

-- of the loads of so many workers that of w is the first of the least
pub record IsLeast (workers : ℕ) (loads : ℕ → ℕ) (w : ℕ) : Type 0 where
  pub there : w < workers
  pub least : (v : ℕ) → v < workers → loads w ≤ loads v
  pub first : (v : ℕ) → v < w → loads w < loads v

-- each task went to the worker who had the least of the tasks before it
pub record IsFair (areas : List ℕ) (workers n : ℕ) (owner : Owner) : Type 0 where
  pub each : (k : ℕ) → k < n → IsLeast workers (load areas owner k) (owner k)

-- a lot for each worker, with the tasks that are his in order: so each task is in one lot, once
pub record IsShare (areas : List ℕ) (workers : ℕ) (lots : List (List ℕ)) : Type 0 where
  pub owner : Owner
  pub fair : IsFair areas workers (length areas) owner
  pub count : length lots ≡ workers
  pub lot : (w : ℕ) → w < workers → slice_index_or lots w [] ≡ tasks_of owner w (length areas)

-- what a lot adds up to
abbrev pub load_of : List ℕ → List ℕ → ℕ
load_of areas lot = sum (map (slice_index areas) lot)

-- the largest of the areas, 0 where there are none
abbrev pub largest : List ℕ → ℕ
largest [] = 0
largest (a ∷ areas) = max a (largest areas)

-- no lot is far above the average (Graham's bound for list scheduling)
pub record IsBalanced (areas : List ℕ) (workers : ℕ) (lots : List (List ℕ)) : Type 0 where
  pub at : (w : ℕ) → w < workers → workers * load_of areas (slice_index_or lots w []) ≤ sum areas + (workers - 1) * largest areas

-- what each of several lists has
abbrev pub lists_in : {X : Type 0} → List (Vec X) → List (List X)
lists_in vs = map (λ v. v.items) vs
