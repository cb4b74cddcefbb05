-- Laws of the definitions, each of which a call of `laws` ensures.
use Rattle.std.specs.Prelude.{◌≡◌, ℕ, ◌+◌, ◌^◌, ◌<◌, ◌≤◌, pos, ◌+ℤ◌, map, IsTrue}
use Rattle.amr_box.specs.declared.Cell.{Cell}
use Rattle.amr_box.specs.Cells.{in_boxes}
use Rattle.amr_def.specs.declared.problem.Problem.{Problem}
use Rattle.amr_def.specs.State.{State, level_at, no_masses, mass_of}
use Rattle.amr_def.specs.Flux.{Fluxes, net}
use Rattle.amr_def.specs.LevelStep.{step}
use Rattle.amr_def.specs.Ledger.{total_mass, inflow, outflow}
use Rattle.amr_def.specs.Run.{stepped, finish}
use Rattle.amr_def.specs.Facts.{IsSound}

-- what flows through the faces of level 0 in the step that is made from a state
abbrev pub step_fluxes : Problem → State → Fluxes
step_fluxes p s = (step p 0 (map (λ k. k.masses) s.levels) no_masses).fluxes

-- one step of a sound state gives a sound state
abbrev pub StepKeepsSound : Type 0
StepKeepsSound = (p : Problem) (s : State) → IsSound p s → s.step < p.steps → IsSound p (stepped p s)

-- no mass of level 0 falls below 0: as whole numbers the new mass is the old one and the net inflow
abbrev pub NewMassIsExact : Type 0
NewMassIsExact = (p : Problem) (s : State) (c : Cell) → IsSound p s → IsTrue (in_boxes (level_at s 0).boxes c)
    → pos (mass_of (level_at (stepped p s) 0).masses c) ≡ pos (mass_of (level_at s 0).masses c) +ℤ net (step_fluxes p s) c

-- the mass of level 0 changes by what flows through open sides
abbrev pub MassChangesByFlows : Type 0
MassChangesByFlows = (p : Problem) (s : State) → IsSound p s
    → total_mass p (level_at (stepped p s) 0).masses + outflow p (step_fluxes p s) ≡ total_mass p (level_at s 0).masses + inflow p (step_fluxes p s)

-- each mass of a sound state is below 2 ^ 31
abbrev pub MassesAreSmall : Type 0
MassesAreSmall = (p : Problem) (s : State) (l : ℕ) (c : Cell) → IsSound p s → mass_of (level_at s l).masses c < 2 ^ 31

-- to finish a state to step i and then to step k is to finish it to step k
abbrev pub FinishInParts : Type 0
FinishInParts = (p : Problem) (s : State) (i k : ℕ) → s.step ≤ i → i ≤ k → finish p (finish p s i) k ≡ finish p s k
