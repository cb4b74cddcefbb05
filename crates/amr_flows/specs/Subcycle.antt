-- Laws of a step of a level over finer ones as calls make it: plain fluxes, both finer steps, a register, sums over children.
-- (Berger and Colella)
use Rattle.std.specs.Prelude.{◌≡◌, ℕ, suc, ◌+◌, ◌^◌, ◌<◌, ◌≤◌, Bool, ℤ, pos, ◌+ℤ◌, ◌-ℤ◌, ◌≤ℤ◌, ◌<ℤ◌, List, [], ◌∷◌, length, unsigned_abs}
use Rattle.std.specs.List.{All, Contains}
use Rattle.amr_box.specs.declared.Cell.{Cell}
use Rattle.amr_box.specs.declared.Face.{Face}
use Rattle.amr_def.specs.declared.problem.Problem.{Problem}
use Rattle.amr_def.specs.State.{Level, Masses, State, is_covered, mass_of, no_masses}
use Rattle.amr_def.specs.Flux.{Fluxes, flux_at, net, updated}
use Rattle.amr_def.specs.LevelStep.{Stepped, step}
use Rattle.amr_def.specs.Ledger.{first_of}
use Rattle.amr_def.specs.Facts.{IsSound}
use Rattle.amr_laws.specs.Levels.{AreLevels, masses_of}
use Rattle.amr_laws.specs.Sides.{inflow_beside, is_uncovered, outflow_beside, over_levels}
use Rattle.amr_laws.specs.Substeps.{IsSubstep, after_step}
use Rattle.amr_patch.specs.declared.patches.Patch.{Patch}
use Rattle.amr_patch.specs.Patches.{ArePatchesApart}
use Rattle.amr_faces.specs.Faces.{ShowsValues}
use Rattle.amr_register.specs.CoarseFlows.{edge_flows}
use Rattle.amr_register.specs.Entries.{with_entries}
use Rattle.amr_register.specs.Laws.{net_of_all}
use Rattle.amr_register.specs.RegisterCells.{register_cells}
use Rattle.amr_transfer.specs.Sums.{summed}
use Rattle.amr_flows.specs.Words.{child_flows}

-- ---- what a register gathers

-- what comes into a cell of level l through the child faces of its coarse-fine edges, in a step of the next finer level from
-- masses m; the finer level has the cells of `fine`
abbrev pub children_part : Problem → ℕ → Level → Masses → Masses → Cell → ℤ
children_part p l k fine m = net (child_flows p l fine (flux_at p (suc l) m k.masses))

-- what comes into it through its coarse-fine edges by its own level's fluxes
abbrev pub edge_part : Problem → ℕ → Level → Masses → Masses → Cell → ℤ
edge_part p l k old fine = net (edge_flows p l k.masses old fine)

-- the one for both finer steps less the other, where the next finer level has masses `fine` before the first and `between`
-- before the second
abbrev pub gathered : Problem → ℕ → Level → Masses → Masses → Masses → Cell → ℤ
gathered p l k old fine between c = (children_part p l k fine fine c +ℤ children_part p l k fine between c) -ℤ edge_part p l k old fine c

-- entries that are this at each register cell, and 0 at every other
pub record AreGathered (p : Problem) (l : ℕ) (k : Level) (old fine between : Masses) (e : Cell → ℤ) : Type 0 where
  pub cells : (c : Cell) → Contains (register_cells p l k.masses fine) c → e c ≡ gathered p l k old fine between c
  pub others : (c : Cell) → ¬ Contains (register_cells p l k.masses fine) c → e c ≡ pos 0

-- ---- the step

-- a step with plain fluxes, then at each register cell what was gathered, then at each covered cell the sum of its children
-- after both finer steps: that is the coarsest level after the step, and the others are as those steps leave them
abbrev pub RegistersGiveTheStep : Type 0
RegistersGiveTheStep = (p : Problem) (l : ℕ) (k fine : Level) (ks : List Level) (old : Masses) (e : Cell → ℤ) → AreLevels p l (k ∷ fine ∷ ks)
    → let first : Stepped = step p (suc l) (masses_of (fine ∷ ks)) k.masses in
    let second : Stepped = step p (suc l) (masses_of (after_step p (suc l) (fine ∷ ks) k.masses)) k.masses in
    AreGathered p l k old fine.masses (first_of first.levels) e
    → (step p l (masses_of (k ∷ fine ∷ ks)) old).levels
    ≡ summed (first_of second.levels) (with_entries e (updated k.masses (flux_at p l k.masses old))) ∷ second.levels

-- of a level alone it is the step with plain fluxes
abbrev pub PlainFluxesGiveTheStep : Type 0
PlainFluxesGiveTheStep =
    (p : Problem) (l : ℕ) (k : Level) (old : Masses) → (step p l (masses_of (k ∷ [])) old).levels ≡ updated k.masses (flux_at p l k.masses old) ∷ []

-- levels that cover the same cells, and so have the same registers and coarse-fine edges
pub record CoverAlike (fine after : Masses) : Type 0 where
  pub covered : is_covered after ≡ is_covered fine
  pub register : (p : Problem) (l : ℕ) (m : Masses) → register_cells p l m after ≡ register_cells p l m fine
  pub children : (p : Problem) (l : ℕ) (e : Fluxes) → child_flows p l after e ≡ child_flows p l fine e
  pub edges : (p : Problem) (l : ℕ) (m old : Masses) → edge_flows p l m old after ≡ edge_flows p l m old fine

-- a step of levels leaves what the coarsest of them covers
abbrev pub StepKeepsCover : Type 0
StepKeepsCover =
    (p : Problem) (l : ℕ) (ks : List Level) (old : Masses) → AreLevels p l ks
    → CoverAlike (first_of (masses_of ks)) (first_of (step p l (masses_of ks) old).levels)

-- ---- its numbers

-- what is gathered for a cell: added to what plain fluxes leave in it, a mass that calls hold; and its parts are small
pub record GatheredFits (p : Problem) (l : ℕ) (k : Level) (old fine between : Masses) (c : Cell) : Type 0 where
  pub kept : pos 0 ≤ℤ (pos (mass_of (updated k.masses (flux_at p l k.masses old)) c) +ℤ gathered p l k old fine between c)
  pub fits : (pos (mass_of (updated k.masses (flux_at p l k.masses old)) c) +ℤ gathered p l k old fine between c) <ℤ pos (2 ^ 31)
  pub first : unsigned_abs (children_part p l k fine fine c) < 2 ^ 34
  pub second : unsigned_abs (children_part p l k fine between c) < 2 ^ 34
  pub edges : unsigned_abs (edge_part p l k old fine c) < 2 ^ 33

-- in each step of levels within the step from a sound state
abbrev pub RefluxFits : Type 0
RefluxFits =
    (p : Problem) (s : State) (l : ℕ) (k fine : Level) (ks : List Level) (old : Masses) (c : Cell) → IsSound p s → s.step < p.steps
    → IsSubstep p s l (k ∷ fine ∷ ks) old → Contains (register_cells p l k.masses fine.masses) c
    → GatheredFits p l k old fine.masses (first_of (step p (suc l) (masses_of (fine ∷ ks)) k.masses).levels) c

-- while patches take their plain flows from entries, one patch after the other, entries stay small: of no face are two of them
-- the owner
abbrev pub PartsTakenFit : Type 0
PartsTakenFit =
    (p : Problem) (l : ℕ) (m old fine : Masses) (ps : List Patch) (c : Cell) → ((f : Face) → unsigned_abs (flux_at p l m old f) < 2 ^ 31) → ArePatchesApart ps
    → All (ShowsValues p l m old) ps
    → unsigned_abs (net_of_all p l fine ps c) < 2 ^ 33

-- ---- its ledger

-- the flows of a step of these levels beside cells that no finer one covers
abbrev pub flows_of_step : (ℕ → (Cell → Bool) → Fluxes → ℕ) → Problem → ℕ → List Level → Masses → ℕ
flows_of_step flows p l ks old = over_levels flows p (length (masses_of ks)) l (masses_of ks) old

-- they are those of the coarsest level and those of both finer steps
abbrev pub FlowsAreOfFinerSteps : Type 0
FlowsAreOfFinerSteps =
    (flows : ℕ → (Cell → Bool) → Fluxes → ℕ) (p : Problem) (l : ℕ) (k fine : Level) (ks : List Level) (old : Masses) → AreLevels p (suc l) (fine ∷ ks)
    → flows_of_step flows p l (k ∷ fine ∷ ks) old
    ≡ flows l (is_uncovered k.masses fine.masses) (flux_at p l k.masses old)
    + (flows_of_step flows p (suc l) (fine ∷ ks) k.masses + flows_of_step flows p (suc l) (after_step p (suc l) (fine ∷ ks) k.masses) k.masses)

-- and of a level alone those of the level, of which nothing is covered
abbrev pub FlowsAreOfLevelAlone : Type 0
FlowsAreOfLevelAlone =
    (flows : ℕ → (Cell → Bool) → Fluxes → ℕ) (p : Problem) (l : ℕ) (k : Level) (old : Masses)
    → flows_of_step flows p l (k ∷ []) old ≡ flows l (is_uncovered k.masses no_masses) (flux_at p l k.masses old)

-- what flows through open sides in a step of levels
pub record LedgerFits (p : Problem) (l : ℕ) (ks : List Level) (old : Masses) : Type 0 where
  pub inflow : flows_of_step (inflow_beside p) p l ks old ≤ 2 ^ 41
  pub outflow : flows_of_step (outflow_beside p) p l ks old ≤ 2 ^ 41

-- in each step of levels within the step from a sound state it fits, since it is a part of what flows in that step
abbrev pub FlowsFit : Type 0
FlowsFit = (p : Problem) (s : State) (l : ℕ) (ks : List Level) (old : Masses) → IsSound p s → s.step < p.steps → IsSubstep p s l ks old → LedgerFits p l ks old
