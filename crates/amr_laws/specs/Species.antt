-- Laws of several species on the same boxes, each of which a call of this crate ensures.
use Rattle.std.specs.Prelude.{◌≡◌, ◌↔◌, ℕ, ◌+◌, ◌-◌, ◌<◌, ◌≤◌, Bool, cond, List, [], ◌∷◌, length, IsFalse, IsSome, IsTrue}
use Rattle.std.specs.List.{All}
use Rattle.amr_box.specs.declared.Cell.{Cell}
use Rattle.amr_def.specs.declared.problem.Problem.{Problem}
use Rattle.amr_def.specs.State.{State, level_at, is_covered, mass_of}
use Rattle.amr_def.specs.Regrid.{regrid, regrid_by}
use Rattle.amr_def.specs.Run.{regrid_is_due, stepped, times, start, finish, run}
use Rattle.amr_def.specs.Facts.{IsSound}
use Rattle.amr_def.specs.Species.{AreAlike, IsFlock, of_species, boxes_in, each_from, first_state, step_of, is_tagged_in_some}
use Rattle.amr_def.specs.Species.{regrid_all, next_all, finish_all, start_all, run_all}
use Rattle.amr_laws.specs.GridSize.{AreLimits, with_grid_size}

-- ---- the problem of a species alone

-- a state is sound for a problem where it is for one of its species
abbrev pub SoundIsOfSpecies : Type 0
SoundIsOfSpecies = (p : Problem) (k : ℕ) (s : State) → IsSound p s ↔ IsSound (of_species p k) s

-- one species is the whole problem
abbrev pub OneSpeciesIsWhole : Type 0
OneSpeciesIsWhole = (p : Problem) → p.species ≡ 1 → of_species p 0 ≡ p

-- a step of a species gives a sound state on the same boxes
abbrev pub SpeciesStepKeepsSound : Type 0
SpeciesStepKeepsSound = (p : Problem) (k : ℕ) (s : State) → IsSound p s → s.step < p.steps → IsSound p (stepped (of_species p k) s)

abbrev pub SpeciesStepKeepsBoxes : Type 0
SpeciesStepKeepsBoxes = (p : Problem) (k : ℕ) (s : State) → IsSound p s → boxes_in (stepped (of_species p k) s) ≡ boxes_in s

-- ---- regrids by any tags

abbrev pub RegridByKeepsSound : Type 0
RegridByKeepsSound = (p : Problem) (tagged : ℕ → Cell → Bool) (s : State) → IsSound p s → IsSound p (regrid_by p tagged s)

-- a cell that is of a level before and after keeps its mass
abbrev pub RegridByKeepsMasses : Type 0
RegridByKeepsMasses =
    (p : Problem) (tagged : ℕ → Cell → Bool) (s : State) (l : ℕ) (c : Cell) → IsSome ((level_at s l).masses c)
    → IsSome ((level_at (regrid_by p tagged s) l).masses c)
    → mass_of (level_at (regrid_by p tagged s) l).masses c ≡ mass_of (level_at s l).masses c

-- states on the same boxes get the same new ones
abbrev pub RegridByGivesSameBoxes : Type 0
RegridByGivesSameBoxes =
    (p : Problem) (tagged : ℕ → Cell → Bool) (s t : State) → boxes_in s ≡ boxes_in t → boxes_in (regrid_by p tagged s) ≡ boxes_in (regrid_by p tagged t)

-- ---- several species

abbrev pub RegridAllKeepsAlike : Type 0
RegridAllKeepsAlike = (p : Problem) (ss : List State) → AreAlike p ss → AreAlike p (regrid_all p ss)

-- each cell of a level of ss below the greatest that is tagged for some species is covered in all of ss'
pub record AreHeld (p : Problem) (ss ss' : List State) : Type 0 where
  pub at : (l : ℕ) (c : Cell) → l < length (first_state ss).levels → l < p.max_level → IsTrue (is_tagged_in_some p ss l c)
      → All (λ s. IsTrue (is_covered (level_at s (l + 1)).masses c)) ss'

abbrev pub RegridAllHoldsTags : Type 0
RegridAllHoldsTags = (p : Problem) (ss : List State) → AreAlike p ss → AreHeld p ss (regrid_all p ss)

abbrev pub StartAllIsFlock : Type 0
StartAllIsFlock = (p : Problem) → IsFlock p (start_all p)

abbrev pub NextAllIsFlock : Type 0
NextAllIsFlock = (p : Problem) (ss : List State) → IsFlock p ss → step_of ss < p.steps → IsFlock p (next_all p ss)

abbrev pub FinishAllIsFlock : Type 0
FinishAllIsFlock = (p : Problem) (ss : List State) (k : ℕ) → IsFlock p ss → k ≤ p.steps → IsFlock p (finish_all p ss k)

-- so each species of a run has the laws of a run, with its own ledger
abbrev pub RunAllIsFlock : Type 0
RunAllIsFlock = (p : Problem) (k : ℕ) → k ≤ p.steps → IsFlock p (run_all p k)

-- to finish states to step i and then to step k is to finish them to step k
abbrev pub FinishAllInParts : Type 0
FinishAllInParts =
    (p : Problem) (ss : List State) (i k : ℕ) → IsFlock p ss → step_of ss ≤ i → i ≤ k → finish_all p (finish_all p ss i) k ≡ finish_all p ss k

-- up to the next regrid that is due each species goes by itself
abbrev pub SpeciesGoByThemselves : Type 0
SpeciesGoByThemselves =
    (p : Problem) (ss : List State) (k : ℕ) → IsFlock p ss → step_of ss < k → ((s : State) → step_of ss < s.step → s.step < k → IsFalse (regrid_is_due p s))
    → finish_all p ss k
    ≡ each_from (λ i s. times (stepped (of_species p i)) (k - step_of ss) s) 0 (cond (regrid_is_due p (first_state ss)) (regrid_all p ss) ss)

-- ---- one species: what was said of one state

abbrev pub RegridOfOne : Type 0
RegridOfOne = (p : Problem) (s : State) → regrid_all p (s ∷ []) ≡ regrid p s ∷ []

abbrev pub StartOfOne : Type 0
StartOfOne = (p : Problem) → p.species ≡ 1 → start_all p ≡ start p ∷ []

abbrev pub FinishOfOne : Type 0
FinishOfOne = (p : Problem) (s : State) (k : ℕ) → p.species ≡ 1 → finish_all p (s ∷ []) k ≡ finish p s k ∷ []

abbrev pub RunOfOne : Type 0
RunOfOne = (p : Problem) (k : ℕ) → p.species ≡ 1 → run_all p k ≡ run p k ∷ []

-- ---- the greatest size of a patch

-- problems that differ in it alone have the same runs of all species
abbrev pub RunAllIgnoresGridSize : Type 0
RunAllIgnoresGridSize = (p : Problem) (n : ℕ) (limits : AreLimits p n) (k : ℕ) → run_all (with_grid_size p n limits) k ≡ run_all p k
