-- The steps of levels that the step from a state is made of, and what of their numbers fits the integers of code.
use Rattle.std.specs.Prelude.{ℕ, suc, ◌*◌, ◌^◌, ◌<◌, ◌≤◌, pos, ◌+ℤ◌, ◌≤ℤ◌, List, ◌∷◌, slice_index_or, unsigned_abs, IsSome}
use Rattle.amr_box.specs.declared.Cell.{Cell}
use Rattle.amr_box.specs.declared.Face.{Face}
use Rattle.amr_def.specs.declared.problem.Problem.{Problem}
use Rattle.amr_def.specs.State.{Masses, Level, State, no_level, no_masses, mass_of}
use Rattle.amr_def.specs.Value.{value_at}
use Rattle.amr_def.specs.Flux.{courant, flux_at, net, updated}
use Rattle.amr_def.specs.LevelStep.{step}
use Rattle.amr_def.specs.Ledger.{sum_to}
use Rattle.amr_def.specs.Run.{with_masses}
use Rattle.amr_laws.specs.Levels.{masses_of}

-- levels after a step of them, in the same boxes
abbrev pub after_step : Problem → ℕ → List Level → Masses → List Level
after_step p l ks old = with_masses ks (step p l (masses_of ks) old).levels

-- a step of the levels from l on, whose `old` is what the next coarser one held before its own step: that of all levels
-- of the state, and below each such step the two of its finer levels. (Berger and Colella)
pub data IsSubstep (p : Problem) (s : State) : ℕ → List Level → Masses → Type 0 where
  whole : IsSubstep p s 0 s.levels no_masses
  first : (l : ℕ) (k : Level) (finer : List Level) (old : Masses) → IsSubstep p s l (k ∷ finer) old → IsSubstep p s (suc l) finer k.masses
  second : (l : ℕ) (k : Level) (finer : List Level) (old : Masses) → IsSubstep p s l (k ∷ finer) old
      → IsSubstep p s (suc l) (after_step p (suc l) finer k.masses) k.masses

-- the numbers of a step of a level, and of the finer ones with it, fit
pub record StepFits (p : Problem) (l : ℕ) (k : Level) (finer : List Level) (old : Masses) : Type 0 where
  pub masses : (c : Cell) → mass_of k.masses c < 2 ^ 31
  pub old_masses : (c : Cell) → mass_of old c < 2 ^ 31
  -- of each cell, ghost cells too
  pub values : (c : Cell) → value_at p l k.masses old c < 2 ^ 31
  pub products : (f : Face) (c : Cell) → unsigned_abs (courant p l f) * value_at p l k.masses old c < 2 ^ 42
  -- of the level's own fluxes
  pub fluxes : (f : Face) → unsigned_abs (flux_at p l k.masses old f) < 2 ^ 31
  pub sums : (faces : ℕ → Face) (n : ℕ) → n ≤ 2 ^ 20 → sum_to (λ i. unsigned_abs (flux_at p l k.masses old (faces i))) n < 2 ^ 52
  -- four of them take no more than a cell has, and leave no more than fits
  pub covered : (c : Cell) → IsSome (k.masses c) → pos 0 ≤ℤ (pos (mass_of k.masses c) +ℤ net (flux_at p l k.masses old) c)
  pub updated_masses : (c : Cell) → mass_of (updated k.masses (flux_at p l k.masses old)) c < 2 ^ 31
  -- of the fluxes that the step makes of these and of those of the finer levels
  pub step_fluxes : (f : Face) → unsigned_abs ((step p l (masses_of (k ∷ finer)) old).fluxes f) < 2 ^ 31
  -- of the level and of those finer than it, after the step
  pub masses_after : (j : ℕ) (c : Cell) → mass_of (slice_index_or (after_step p l (k ∷ finer) old) j no_level).masses c < 2 ^ 31
