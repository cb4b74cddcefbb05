-- What a step of levels asks and gives, in the words of the level that makes it.
use Rattle.std.specs.Prelude.{◌≡◌, ℕ, ◌+◌, neg_ℤ, Bool, true, List, Option, None, IfSome, is_some, map, slice_index_or}
use Rattle.std.specs.Arc.{arc_value}
use Rattle.std.specs.Option.{option_copied}
use Rattle.amr_box.specs.declared.Cell.{Cell}
use Rattle.amr_box.specs.Cells.{in_boxes}
use Rattle.amr_def.specs.Flux.{Fluxes, flux_at}
use Rattle.amr_def.specs.State.{Level, Masses, no_level}
use Rattle.amr_laws.specs.Sides.{inflow_beside, is_uncovered, outflow_beside}
use Rattle.amr_laws.specs.Substeps.{after_step}
use Rattle.amr_patch.specs.declared.levels.Level.{Level as Held}
use Rattle.amr_patch.specs.Levels.{level_of, patches_of}
use Rattle.amr_patch.specs.Patches.{box}
use Rattle.amr_ghost.specs.Frames.{old_masses}
use Rattle.amr_register.specs.declared.register.Register.{Register}
use Rattle.amr_register.specs.Fields.{HasEdgesOf}
use Rattle.amr_flows.specs.Subcycle.{edge_part, flows_of_step}
use Rattle.amr_advance.specs.declared.registers.Regs.{Regs}
use Rattle.amr_advance.specs.Registers.{BothChange, HasCoarser, gained}
use Rattle.amr_cycle.specs.declared.context.LevelContext.{LevelContext}
use Rattle.amr_cycle.specs.declared.kept.KeptLevel.{KeptLevel}
use Rattle.amr_cycle.specs.declared.levels.Below.{Below}
use Rattle.amr_cycle.specs.Cycles.{SomeHasEntries}
use Rattle.amr_cycle.specs.KeptLevels.{AreKept, IsKeptBeside}

-- ---- in words of one level

-- the masses of the next coarser level before its own step; none above level 0
abbrev pub coarser_in : LevelContext → Masses
coarser_in given = old_masses (option_copied given.old)

-- the plain fluxes of a level's own step
abbrev pub flux_in : LevelContext → Level → Fluxes
flux_in given k = flux_at given.problem.now given.level k.masses (coarser_in given)

-- the levels after a step of them
abbrev pub after_in : LevelContext → List Level → List Level
after_in given ks = after_step given.problem.now given.level ks (coarser_in given)

-- what flows in through open sides in the level's own step, beside cells that the finer level doesn't cover
abbrev pub own_inflow : LevelContext → Level → Level → ℕ
own_inflow given k fine = inflow_beside given.problem.now given.level (is_uncovered k.masses fine.masses) (flux_in given k)

-- and out
abbrev pub own_outflow : LevelContext → Level → Level → ℕ
own_outflow given k fine = outflow_beside given.problem.now given.level (is_uncovered k.masses fine.masses) (flux_in given k)

-- what flows in so in all steps of these levels
abbrev pub all_inflow : LevelContext → List Level → ℕ
all_inflow given ks = flows_of_step (inflow_beside given.problem.now) given.problem.now given.level ks (coarser_in given)

-- and out
abbrev pub all_outflow : LevelContext → List Level → ℕ
all_outflow given ks = flows_of_step (outflow_beside given.problem.now) given.problem.now given.level ks (coarser_in given)

-- the coarser level's register, where there is one, gains what flows through the level's faces beside its cells
abbrev pub Gains : LevelContext → Level → Option Register → Option Register → Type 0
Gains given k old new = BothChange (gained given.problem.now given.level k.masses (flux_in given k)) old new

-- what is kept of the level is of its masses and of these of the coarser level
abbrev pub IsKeptIn : LevelContext → Level → KeptLevel → Type 0
IsKeptIn given k own = IsKeptBeside given.problem.now given.level k.masses (coarser_in given) own

-- what levels from this one on keep is of their masses; where the step is made again, beside the same ones of the coarser level too
pub record AreReady (given : LevelContext) (again : Bool) (levels : List Level) (ks : List KeptLevel) : Type 0 where
  pub kept : AreKept given.problem.now given.level levels ks
  pub beside : again ≡ true → (d : KeptLevel) → IsKeptIn given (slice_index_or levels 0 no_level) (slice_index_or ks 0 d)

-- ---- what a step asks

-- registers as a step of levels from this one on finds them: that of the coarser level, where there is one, and none over a finer one
pub record AreRegsFor (given : LevelContext) (k : Level) (regs : Regs) : Type 0 where
  pub coarser : HasCoarser given.problem.now given.level k (option_copied given.old) regs.coarser
  pub finer : regs.finer ≡ None

-- ---- what both finer steps begin with

-- The level as it was before its own step, the boxes of the finer level's patches, and a register that has lost what flowed through the level's
-- coarse-fine edges in that step. The sums have what flowed through open sides in it.
pub record StandsBelow (given : LevelContext) (k next : Held) (regs : Regs) (b : Below) : Type 0 where
  pub before : level_of (arc_value b.before) ≡ level_of k
  pub before_patches : map box (patches_of (arc_value b.before)) ≡ map box (patches_of k)
  pub finer_boxes : (c : Cell) → is_some ((level_of next).masses c) ≡ in_boxes b.finer.items c
  pub register : SomeHasEntries given.problem.now given.level (level_of k).masses (level_of next).masses
      (λ c. neg_ℤ (edge_part given.problem.now given.level (level_of k) (coarser_in given) (level_of next).masses c)) b.regs.coarser
  pub edges : IfSome b.regs.coarser (HasEdgesOf (map box (patches_of (arc_value b.before))))
  pub no_finer : b.regs.finer ≡ None
  pub inflow : b.regs.inflow ≡ regs.inflow + own_inflow given (level_of k) (level_of next)
  pub outflow : b.regs.outflow ≡ regs.outflow + own_outflow given (level_of k) (level_of next)
