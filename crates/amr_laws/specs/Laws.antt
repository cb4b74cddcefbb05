-- Laws of states with any number of levels, each of which a call of this crate ensures.
use Rattle.std.specs.Prelude.{◌≡◌, ℕ, suc, cond, ◌+◌, ◌*◌, ◌/◌, ◌^◌, ◌<◌, ◌≤◌, ℤ, pos, ◌+ℤ◌, ◌-ℤ◌, ◌≤ℤ◌, neg_ℤ}
use Rattle.std.specs.Prelude.{List, [], ◌∷◌, length, map, unsigned_abs, IsFalse, IsSome}
use Rattle.amr_box.specs.declared.Cell.{Cell}
use Rattle.amr_box.specs.declared.Face.{Face}
use Rattle.amr_box.specs.declared.Axis.{Axis}
use Rattle.amr_box.specs.declared.Axis.TheVariants.{X, Y}
use Rattle.amr_def.specs.declared.problem.Problem.{Problem}
use Rattle.amr_def.specs.Domain.{domain, home_cell}
use Rattle.amr_def.specs.State.{Masses, Level, State, no_masses, level_at, masses_below, is_covered, mass_of, children_mass}
use Rattle.amr_def.specs.Value.{value_at}
use Rattle.amr_def.specs.Flux.{Fluxes, face, low_cell, high_cell, courant, flow, flux_at, net}
use Rattle.amr_def.specs.LevelStep.{effective, Stepped, step, over_finer}
use Rattle.amr_def.specs.Ledger.{first_of, inflow, outflow}
use Rattle.amr_def.specs.Laws.{step_fluxes}
use Rattle.amr_def.specs.Regrid.{child_share, regrid}
use Rattle.amr_def.specs.Run.{start, next, finish, run}
use Rattle.amr_def.specs.Facts.{IsLevel, IsSound, IsHeld}
use Rattle.amr_def.specs.Plot.{plot_all}
use Rattle.amr_laws.specs.GridSize.{AreLimits, with_grid_size}
use Rattle.std.specs.List.{All}
use Rattle.amr_laws.specs.Levels.{AreLevels, LiesInLevel, masses_of}
use Rattle.amr_laws.specs.Sides.{inflow_beside, outflow_beside, over_levels}
use Rattle.amr_laws.specs.Substeps.{IsSubstep, StepFits, after_step}

-- ---- runs

abbrev pub StartIsSound : Type 0
StartIsSound = (p : Problem) → IsSound p (start p)

abbrev pub RegridKeepsSound : Type 0
RegridKeepsSound = (p : Problem) (s : State) → IsSound p s → IsSound p (regrid p s)

-- each tagged cell of a level coarser than the greatest is covered after the regrid
abbrev pub RegridHoldsTags : Type 0
RegridHoldsTags = (p : Problem) (s : State) → IsSound p s → IsHeld p s (regrid p s)

-- the regrid that is due and the step after it
abbrev pub NextIsSound : Type 0
NextIsSound = (p : Problem) (s : State) → IsSound p s → s.step < p.steps → IsSound p (next p s)

abbrev pub FinishIsSound : Type 0
FinishIsSound = (p : Problem) (s : State) (k : ℕ) → IsSound p s → k ≤ p.steps → IsSound p (finish p s k)

abbrev pub RunIsSound : Type 0
RunIsSound = (p : Problem) (k : ℕ) → k ≤ p.steps → IsSound p (run p k)

-- problems that differ in the greatest size of a patch alone have the same runs
abbrev pub RunIgnoresGridSize : Type 0
RunIgnoresGridSize = (p : Problem) (n : ℕ) (limits : AreLimits p n) (k : ℕ) → run (with_grid_size p n limits) k ≡ run p k

-- and the same plots
abbrev pub PlotIgnoresGridSize : Type 0
PlotIgnoresGridSize = (p : Problem) (n : ℕ) (limits : AreLimits p n) (ss : List State) → plot_all (with_grid_size p n limits) ss ≡ plot_all p ss

-- the boxes of a level lie in its domain, and their coordinates are as small as the calls on boxes ask
abbrev pub BoxesLieInLevel : Type 0
BoxesLieInLevel = (p : Problem) (l : ℕ) (k : Level) → l ≤ 4 → IsLevel p l k → All (LiesInLevel p l) k.boxes

-- in a sound state the value of each cell, ghost cells too, is below 2 ^ 31
abbrev pub ValuesAreSmall : Type 0
ValuesAreSmall = (p : Problem) (s : State) (l : ℕ) (c : Cell) → IsSound p s → value_at p l (level_at s l).masses (masses_below s l) c < 2 ^ 31

-- and its product with a Courant number is below 2 ^ 42
abbrev pub ProductsAreSmall : Type 0
ProductsAreSmall =
    (p : Problem) (s : State) (l : ℕ) (f : Face) (c : Cell) → IsSound p s
    → unsigned_abs (courant p l f) * value_at p l (level_at s l).masses (masses_below s l) c < 2 ^ 42

-- ---- a regrid's masses

-- a cell that is of a level before and after keeps its mass
abbrev pub RegridKeepsMasses : Type 0
RegridKeepsMasses = (p : Problem) (s : State) (l : ℕ) (c : Cell) → IsSome ((level_at s l).masses c) → IsSome ((level_at (regrid p s) l).masses c)
    → mass_of (level_at (regrid p s) l).masses c ≡ mass_of (level_at s l).masses c

-- what the four children of a cell get is its mass
abbrev pub SharesAddUp : Type 0
SharesAddUp = (m : ℕ) → child_share m 0 + child_share m 1 + child_share m 2 + child_share m 3 ≡ m

-- ---- a step

-- in every step of a level, its second finer one too, no mass falls below 0: as whole numbers the new
-- mass of a cell of the coarsest level is the old one and the net inflow. Each finer level is the
-- coarsest one of its own two steps, with `old` the masses of the next coarser level before its step.
abbrev pub LevelStepIsExact : Type 0
LevelStepIsExact = (p : Problem) (l : ℕ) (ks : List Level) (k : Level) (old : Masses) (c : Cell) → AreLevels p l (k ∷ ks) → IsSome (k.masses c)
    → let r : Stepped = step p l (k.masses ∷ masses_of ks) old in pos (mass_of (first_of r.levels) c) ≡ pos (mass_of k.masses c) +ℤ net r.fluxes c

-- the child faces of a face
abbrev pub first_child_face : Face → Face
first_child_face f = face f.axis (f.x +ℤ f.x) (f.y +ℤ f.y)

abbrev pub second_child : Axis → ℤ → ℤ → Face
second_child X x y = face X (x +ℤ x) (y +ℤ y +ℤ pos 1)
second_child Y x y = face Y (x +ℤ x +ℤ pos 1) (y +ℤ y)

abbrev pub second_child_face : Face → Face
second_child_face f = second_child f.axis f.x f.y

-- what flows through both child faces in two steps, from cells of these values
abbrev pub four_fluxes : Problem → ℕ → Face → (ℕ → ℕ × ℕ) → ℤ
four_fluxes p l f sides =
    let first = courant p (suc l) (first_child_face f) in
    let second = courant p (suc l) (second_child_face f) in
    (flow first p.d (sides 0).0 (sides 0).1 +ℤ flow second p.d (sides 1).0 (sides 1).1)
    +ℤ (flow first p.d (sides 2).0 (sides 2).1 +ℤ flow second p.d (sides 3).0 (sides 3).1)

-- the share of a mass that may flow through a face of its cell
abbrev pub face_share : Problem → ℕ → Face → ℕ → ℕ
face_share p l f m = unsigned_abs (courant p l f) * m / p.d

-- four fluxes, over both finer steps, out of ghost cells of a quarter of a coarse mass through the child
-- faces of one face are at most the coarse cell's share at that face
abbrev pub FourFluxesAreWithinShare : Type 0
FourFluxesAreWithinShare = (p : Problem) (l : ℕ) (f : Face) (m : ℕ) (other : ℕ → ℕ)
    → (four_fluxes p l f (λ i. (m / 4, other i)) ≤ℤ pos (face_share p l f m)) × (neg_ℤ (pos (face_share p l f m)) ≤ℤ four_fluxes p l f (λ i. (other i, m / 4)))

-- what a flux register does: a step with plain fluxes, and then at each cell the effective fluxes of its
-- faces less the plain ones, is the step with the effective fluxes
abbrev pub RefluxIsEffectiveStep : Type 0
RefluxIsEffectiveStep = (p : Problem) (l : ℕ) (m old fine : Masses) (e1 e2 : Fluxes) (c : Cell)
    → (pos (mass_of m c) +ℤ net (flux_at p l m old) c) +ℤ net (λ f. effective p l m old fine e1 e2 f -ℤ flux_at p l m old f) c
    ≡ pos (mass_of m c) +ℤ net (effective p l m old fine e1 e2) c

-- and away from covered cells there is nothing to correct
abbrev pub RegistersLieBesideCovered : Type 0
RegistersLieBesideCovered =
    (p : Problem) (l : ℕ) (m old fine : Masses) (e1 e2 : Fluxes) (f : Face) → IsFalse (is_covered fine (home_cell (domain p l) (low_cell f)))
    → IsFalse (is_covered fine (home_cell (domain p l) (high_cell f)))
    → effective p l m old fine e1 e2 f ≡ flux_at p l m old f

-- ---- the whole step of a level over finer ones

-- the masses of the next finer level
abbrev pub second_of : List Masses → Masses
second_of [] = no_masses
second_of (m ∷ ms) = first_of ms

-- a step with plain fluxes, then at each cell that is not covered the fluxes of the step less the plain
-- ones, and at each covered one the sum of its children, is the level step
abbrev pub LevelStepByRegisters : Type 0
LevelStepByRegisters = (p : Problem) (l : ℕ) (k fine : Level) (ks : List Level) (old : Masses) (c : Cell) → AreLevels p l (k ∷ fine ∷ ks) → IsSome (k.masses c)
    → let r : Stepped = step p l (k.masses ∷ fine.masses ∷ masses_of ks) old in
    let plain : Fluxes = flux_at p l k.masses old in
    pos (mass_of (first_of r.levels) c)
    ≡ cond (is_covered fine.masses c) (pos (children_mass (second_of r.levels) c))
    ((pos (mass_of k.masses c) +ℤ net plain c) +ℤ net (λ f. r.fluxes f -ℤ plain f) c)

-- ---- the ledger by levels

-- what flows into the domain in the step from a sound state is what flows in through open sides beside cells that no finer
-- level covers, over all levels and the steps that each makes
abbrev pub InflowByLevels : Type 0
InflowByLevels =
    (p : Problem) (s : State) → IsSound p s
    → inflow p (step_fluxes p s) ≡ over_levels (inflow_beside p) p (length (masses_of s.levels)) 0 (masses_of s.levels) no_masses

-- and the same of what flows out
abbrev pub OutflowByLevels : Type 0
OutflowByLevels =
    (p : Problem) (s : State) → IsSound p s
    → outflow p (step_fluxes p s) ≡ over_levels (outflow_beside p) p (length (masses_of s.levels)) 0 (masses_of s.levels) no_masses

-- ---- steps within a step

-- a step of levels keeps what the laws on it ask: each in its domain, nested and in sync. So they hold of a second step too.
abbrev pub LevelStepKeepsLevels : Type 0
LevelStepKeepsLevels = (p : Problem) (l : ℕ) (ks : List Level) (old : Masses) → AreLevels p l ks → AreLevels p l (after_step p l ks old)

-- their boxes stay
abbrev pub LevelStepKeepsBoxes : Type 0
LevelStepKeepsBoxes =
    (p : Problem) (l : ℕ) (ks : List Level) (old : Masses) → AreLevels p l ks → map (λ k. k.boxes) (after_step p l ks old) ≡ map (λ k. k.boxes) ks

-- and their masses are those of the step, none left out
abbrev pub LevelStepGivesMasses : Type 0
LevelStepGivesMasses =
    (p : Problem) (l : ℕ) (ks : List Level) (old : Masses) → AreLevels p l ks → masses_of (after_step p l ks old) ≡ (step p l (masses_of ks) old).levels

-- a step of a level over finer ones is made of two steps of those, the second of what the first left, both with the
-- level's masses of before
abbrev pub LevelStepIsTwoFiner : Type 0
LevelStepIsTwoFiner = (p : Problem) (l : ℕ) (k fine : Level) (finer : List Level) (old : Masses) → AreLevels p (suc l) (fine ∷ finer)
    → let first : Stepped = step p (suc l) (masses_of (fine ∷ finer)) k.masses in
    let second : Stepped = step p (suc l) (masses_of (after_step p (suc l) (fine ∷ finer) k.masses)) k.masses in
    step p l (masses_of (k ∷ fine ∷ finer)) old ≡ over_finer p l k.masses old fine.masses first second

-- what a step of a sound state is made of: each step of levels within it is one of levels in their domains, nested and in sync
abbrev pub SubstepsAreOfLevels : Type 0
SubstepsAreOfLevels = (p : Problem) (s : State) (l : ℕ) (ks : List Level) (old : Masses) → IsSound p s → IsSubstep p s l ks old → AreLevels p l ks

-- and its numbers fit the integers of code
abbrev pub SubstepsFit : Type 0
SubstepsFit =
    (p : Problem) (s : State) (l : ℕ) (k : Level) (finer : List Level) (old : Masses) → IsSound p s → s.step < p.steps → IsSubstep p s l (k ∷ finer) old
    → StepFits p l k finer old
