-- Steps of levels within the step of a state, and a register between both finer steps.
use Rattle.std.specs.Prelude.{◌≡◌, ℕ, ◌<◌, ℤ, pos, List, [], ◌∷◌, map}
use Rattle.std.specs.declared.option.Option.{Option}
use Rattle.std.specs.declared.option.Option.TheVariants.{None, Some}
use Rattle.std.specs.List.{All, Contains}
use Rattle.amr_box.specs.declared.Cell.{Cell}
use Rattle.amr_box.specs.Cells.{Extent}
use Rattle.amr_def.specs.declared.problem.Problem.{Problem}
use Rattle.amr_def.specs.State.{Level, Masses, State}
use Rattle.amr_def.specs.Facts.{IsSound}
use Rattle.amr_laws.specs.Substeps.{IsSubstep}
use Rattle.amr_patch.specs.declared.levels.Level.{Level as Held}
use Rattle.amr_patch.specs.Levels.{patches_of}
use Rattle.amr_patch.specs.Patches.{box}
use Rattle.amr_register.specs.declared.register.Register.{Register}
use Rattle.amr_register.specs.Fields.{IsRegisterOf, cells_in, entry_in}
use Rattle.amr_transfer.specs.Sums.{AreCoarsenable}

-- ---- levels

-- the boxes of the patches that hold each level
abbrev pub patch_boxes : List Held → List (List Extent)
patch_boxes ks = map (λ k. map box (patches_of k)) ks

-- no patch of a level above level 0 cuts a cell of the next coarser level
abbrev pub AreCoarsenableAbove : List Held → Type 0
AreCoarsenableAbove [] = Unit {0}
AreCoarsenableAbove (k ∷ ks) = All (λ fine. AreCoarsenable (patches_of fine)) ks

-- the levels of a sound state with a step to come
pub record HasStepToCome (p : Problem) (ks : List Level) : Type 0 where
  pub state : State
  pub levels_are : state.levels ≡ ks
  pub sound : IsSound p state
  pub before : state.step < p.steps

-- ---- steps of levels

-- a step of levels from l on is a part of the step from a sound state (Berger and Colella: a coarse step and the finer ones in it)
pub record IsPartOfStep (p : Problem) (l : ℕ) (ks : List Level) (old : Masses) : Type 0 where
  pub state : State
  pub sound : IsSound p state
  pub before : state.step < p.steps
  pub within : IsSubstep p state l ks old

-- a step of level k and of those from `fine` on is
pub record IsCoarsePart (p : Problem) (l : ℕ) (k fine : Level) (old : Masses) : Type 0 where
  pub finest : List Level
  pub part : IsPartOfStep p l (k ∷ fine ∷ finest) old

-- ---- a register

-- the register over level l, of masses m, where the next finer one has masses `fine`, with these entries
pub record HasEntries (p : Problem) (l : ℕ) (m fine : Masses) (e : Cell → ℤ) (r : Register) : Type 0 where
  pub of_levels : IsRegisterOf p l m fine r
  pub entries : (c : Cell) → Contains (cells_in r) c → entry_in r c ≡ e c

-- the entries of the register that there is
abbrev pub entries_of : Option Register → Cell → ℤ
entries_of None c = pos 0
entries_of (Some r) c = entry_in r c

abbrev pub SomeHasEntries : Problem → ℕ → Masses → Masses → (Cell → ℤ) → Option Register → Type 0
SomeHasEntries p l m fine e None = ⊥
SomeHasEntries p l m fine e (Some r) = HasEntries p l m fine e r
