-- Several species on the same boxes: a state of each, their regrids by the tags of any of them, and their runs. (profile; as the components
-- of a state on the grids of BoxLib)
use Rattle.std.specs.Prelude.{◌≡◌, ℕ, ◌+◌, ◌-◌, Bool, cond, List, [], ◌∷◌, map, length, slice_index_or}
use Rattle.std.specs.List.{All, list_any, range_with_len}
use Rattle.amr_box.specs.declared.Cell.{Cell}
use Rattle.amr_box.specs.Cells.{Extent}
use Rattle.amr_def.specs.declared.problem.Problem.{Problem}
use Rattle.amr_def.specs.OneSpecies.{blocks_of, sides_of}
use Rattle.amr_def.specs.State.{State}
use Rattle.amr_def.specs.Tags.{is_tagged}
use Rattle.amr_def.specs.Regrid.{regrid_by}
use Rattle.amr_def.specs.Run.{plain_start, regrid_is_due, stepped, times}
use Rattle.amr_def.specs.Facts.{IsSound}
use Rattle.amr_def.specs.SpeciesLimits.{limits_of_species}

-- ---- the problem of a species alone

unfoldable pub of_species : Problem → ℕ → Problem
of_species p k = record p
    { blocks = blocks_of k p.blocks; x_sides = sides_of k p.x_sides; y_sides = sides_of k p.y_sides; species = 1; limits = limits_of_species p k }

-- ---- states of all species, by their numbers

abbrev pub no_state : State
no_state = record { step = 0; rows = []; levels = [] }

abbrev pub first_state : List State → State
first_state ss = slice_index_or ss 0 no_state

abbrev pub step_of : List State → ℕ
step_of ss = (first_state ss).step

-- what the states have at each of n places
abbrev pub by_place : {A : Type 0} → (State → ℕ → A) → ℕ → List State → List (List A)
by_place at n ss = map (λ i. map (λ s. at s i) ss) (range_with_len 0 n)

-- each by its number from k on
abbrev pub each_from : {A B : Type 0} → (ℕ → A → B) → ℕ → List A → List B
each_from f k [] = []
each_from f k (a ∷ rest) = f k a ∷ each_from f (k + 1) rest

abbrev pub boxes_in : State → List (List Extent)
boxes_in s = map (λ k. k.boxes) s.levels

-- sound states, all at one step and on the same boxes
pub record AreAlike (p : Problem) (ss : List State) : Type 0 where
  pub sound : All (IsSound p) ss
  pub same_step : All (λ s. s.step ≡ step_of ss) ss
  pub same_boxes : All (λ s. boxes_in s ≡ boxes_in (first_state ss)) ss

-- one of each species
pub record IsFlock (p : Problem) (ss : List State) : Type 0 where
  pub one_each : length ss ≡ p.species
  pub alike : AreAlike p ss

-- ---- regrids

-- tagged for some species
abbrev pub is_tagged_in_some : Problem → List State → ℕ → Cell → Bool
is_tagged_in_some p ss l c = list_any (λ s. is_tagged p s l c) ss

-- new boxes once, by the tags of all, and the masses of each
unfoldable pub regrid_all : Problem → List State → List State
regrid_all p ss = map (regrid_by p (is_tagged_in_some p ss)) ss

-- ---- runs: between regrids each species goes by itself

unfoldable pub stepped_all : Problem → List State → List State
stepped_all p ss = each_from (λ k s. stepped (of_species p k) s) 0 ss

unfoldable pub next_all : Problem → List State → List State
next_all p ss = stepped_all p (cond (regrid_is_due p (first_state ss)) (regrid_all p ss) ss)

unfoldable pub finish_all : Problem → List State → ℕ → List State
finish_all p ss k = times (next_all p) (k - step_of ss) ss

unfoldable pub start_all : Problem → List State
start_all p = times (regrid_all p) p.max_level (map (λ k. plain_start (of_species p k)) (range_with_len 0 p.species))

unfoldable pub run_all : Problem → ℕ → List State
run_all p k = finish_all p (start_all p) k
