-- A step of a level: what it is made from, and what it leaves.
use Rattle.std.specs.Prelude.{◌≡◌, ℕ, ◌<◌, ◌≤◌, ◌^◌, ◌+◌, ◌*◌, Bool, true, false, pos, List, length, map, slice_index, IfSome}
use Rattle.std.specs.declared.option.Option.{Option}
use Rattle.std.specs.declared.option.Option.TheVariants.{None}
use Rattle.std.specs.List.{All, AllZip}
use Rattle.std.specs.Option.{option_copied}
use Rattle.amr_def.specs.declared.problem.Problem.{Problem}
use Rattle.amr_def.specs.Facts.{IsLevel}
use Rattle.amr_def.specs.State.{Masses}
use Rattle.amr_def.specs.Flux.{Fluxes, flux_at, updated}
use Rattle.amr_laws.specs.Sides.{inflow_beside, is_uncovered, outflow_beside}
use Rattle.amr_patch.specs.declared.levels.Level.{Level as Held}
use Rattle.amr_patch.specs.declared.lookup.Order.{Order}
use Rattle.amr_patch.specs.declared.patches.Patch.{Patch}
use Rattle.amr_patch.specs.Levels.{level_of, patches_of}
use Rattle.amr_patch.specs.Orders.{IsOrderOf}
use Rattle.amr_patch.specs.Patches.{ArePatchesApart, box, masses_in}
use Rattle.amr_ghost.specs.Frames.{AreInDomain, HasGhostValues, old_masses}
use Rattle.amr_flows.specs.Laws.{plain_size}
use Rattle.amr_flows.specs.Words.{level_total}
use Rattle.amr_layout.specs.Adds.{HasRegisterCells}
use Rattle.amr_layout.specs.Surroundings.{AreAmong, Around, around, domain_around, finer_masses}
use Rattle.amr_lots.specs.FrameValues.{HasValuesBy, HasValuesOrLevel}
use Rattle.amr_lots.specs.Lots.{IsStepped, LevelStepFits}
use Rattle.amr_register.specs.declared.edges.EdgeCell.{EdgeCell}
use Rattle.amr_register.specs.declared.register.Register.{Register}
use Rattle.amr_register.specs.EdgeCells.{IsSmallNet, SameEdges}
use Rattle.amr_register.specs.Fields.{HasEdgesOf}
use Rattle.amr_advance.specs.declared.kept_layout.KeptLayout.{KeptLayout}
use Rattle.amr_advance.specs.declared.level.StepInput.{StepInput}
use Rattle.amr_advance.specs.declared.lots.Lots.{Lots}
use Rattle.amr_advance.specs.declared.registers.Regs.{Regs}
use Rattle.amr_advance.specs.KeptLayouts.{HasFirstTotals, ServesLevel, totals_in, totals_kept}
use Rattle.amr_advance.specs.Lots.{AreLots, CarryMasses, totals_of}
use Rattle.amr_advance.specs.Outer.{IsLent, IsSharedOf}
use Rattle.amr_advance.specs.Phases.{IsBasisOf}
use Rattle.amr_advance.specs.Registers.{AreNetsOf, BothChange, HasCoarser, HasEdges, HasFiner, gained, taken}
use Rattle.amr_advance.specs.Totals.{HasTotals}

-- ---- what it is made from

-- all patches of the level
abbrev pub whole_of : StepInput → List Patch
whole_of g = g.basis.now.patches.value.items

-- these patches of the level, and what lies around it
abbrev pub around_of : StepInput → List Patch → Around
around_of g qs = record {
  problem = g.problem.now;
  level = g.level;
  patches = qs;
  whole = whole_of g;
  filled = g.filled;
  cells = g.cells.now;
  finer = finer_masses (option_copied g.finer);
}

-- a level with these patches, all of which are worked on
abbrev pub all_around : StepInput → List Patch → Around
all_around g qs = around g.problem.now g.level qs g.cells.now (option_copied g.finer)

-- the masses of the next coarser level before its own step
abbrev pub coarser_masses : StepInput → Masses
coarser_masses g = old_masses (option_copied g.old)

-- what flows through each face of the level, by its own masses and those of the next coarser level
abbrev pub own_fluxes : Around → Masses → Fluxes
own_fluxes s old = flux_at s.problem s.level (masses_in s.whole) old

-- the frames of the patches that are worked on are filled beforehand, or else all of the level is worked on
abbrev pub AreFramed : Bool → Around → Masses → Type 0
AreFramed false s old = s.whole ≡ s.patches
AreFramed true s old = All (HasGhostValues s.problem s.level (masses_in s.whole) old) s.patches

-- patches of a level that may make their step
pub record MayStepLevel (s : Around) (old : Masses) : Type 0 where
  pub level : s.level ≤ 4
  pub apart : ArePatchesApart s.whole
  pub inside : AreInDomain (domain_around s) s.whole
  pub fits : LevelStepFits s.problem s.level (masses_in s.whole) old
  pub worked_on : AreAmong s.whole s.patches
  pub once : ArePatchesApart s.patches
  pub framed : AreFramed s.filled s old

-- patches that may make their step, made from this
pub record MayMakeStep (g : StepInput) (qs : List Patch) : Type 0 where
  pub level : MayStepLevel (around_of g qs) (coarser_masses g)
  pub basis : IsBasisOf g.problem.now (whole_of g) (option_copied g.old) g.basis.now
  pub shared : IsSharedOf g.old g.shared

-- all patches of a level, in this order, over this register, where there is one, and with these register cells of the next coarser level
pub record MayStepPatches (g : StepInput) (order : Order) (qs : List Patch) (r : Option Register) : Type 0 where
  pub step : MayMakeStep g qs
  pub unfilled : g.filled ≡ false
  pub order_of : IsOrderOf order qs
  pub cells : HasRegisterCells (all_around g qs)
  pub register : HasEdges g.problem.now g.level (masses_in qs) (option_copied g.finer) r
  pub edges : IfSome r (HasEdgesOf (map box qs))

-- ---- what it leaves

-- the patches have their new masses
abbrev pub AreStepped : Around → Masses → List Patch → Type 0
AreStepped s old rs = AllZip (IsStepped (own_fluxes s old)) s.patches rs

-- totals of words, small ones: what the level's own fluxes add to each
pub record AreTotalsOf (s : Around) (old : Masses) (ws : List ℕ) : Type 0 where
  pub are : (word : ℕ) → word < length ws → slice_index ws word ≡ level_total s (plain_size s.problem s.level (masses_in s.whole) old) word
  pub small : (word : ℕ) → word < length ws → slice_index ws word < 2 ^ 63

-- lists of register cells over a finer level tell what the level's own fluxes carry into each cell
pub record AreFound (s : Around) (old : Masses) (xs ys : List (List EdgeCell)) : Type 0 where
  pub same : SameEdges xs ys
  pub small : All (All IsSmallNet) ys
  pub nets : AreNetsOf s.problem s.level (masses_in s.whole) old xs ys

-- lots that may make the step of their level: what they have packed for others is of its masses, and each has the values of its outer ghost
-- cells, or a level by which it can find them
pub record CanMakeStep (s : Around) (old : Masses) (t : Lots) : Type 0 where
  pub lots : AreLots s t
  pub packed : t.packed ≡ true → CarryMasses (masses_in s.patches) t.lots.items
  pub values : All (λ x. HasValuesOrLevel s.problem s.level old x.value.workspace.outer) t.lots.items

-- lots that have made it, which gave these patches: they are lots of the same level, what they have packed is of the new masses, they have
-- the values of their outer ghost cells, and the totals of the words
pub record HaveStepped (s : Around) (old : Masses) (rs : List Patch) (t u : Lots) : Type 0 where
  pub lots : AreLots s u
  pub wanted : u.wanted ≡ t.wanted
  pub carry : CarryMasses (masses_in rs) u.lots.items
  pub values : All (λ x. HasValuesBy s.problem s.level old x.value.workspace.outer) u.lots.items
  pub totals : AreTotalsOf s old (totals_of u)

-- they made it, the patches have their new masses, and lists of register cells over a finer level tell what flowed to them
pub record LotsMadeStep (s : Around) (old : Masses) (rs : List Patch) (xs ys : List (List EdgeCell)) (t u : Lots) : Type 0 where
  pub stepped : AreStepped s old rs
  pub lots : HaveStepped s old rs t u
  pub edges : AreFound s old xs ys

-- and what was lent to them was taken back
pub record HaveSettled (t u : Lots) : Type 0 where
  pub lots : AllZip (IsLent None) t.lots.items u.lots.items
  pub rest : u ≡ record t { packed = true; valued = true; lots = u.lots }

-- a step of a level, which has the patches rs then: its layout serves the next one, and what it keeps of masses is of the new ones
pub record HasMadeStep (s : Around) (old : Masses) (rs : List Patch) (xs ys : List (List EdgeCell)) (k : KeptLayout) : Type 0 where
  pub stepped : AreStepped s old rs
  pub totals : AreTotalsOf s old (totals_kept k)
  pub edges : AreFound s old xs ys
  pub layout : ServesLevel s (masses_in rs) old k

-- what a step leaves of a level, where its layout is kept: patches with the new masses, totals of words that give them to what the step adds
-- to, and entries of the register over the next finer level that lost the level's own flows through its edges
pub record LeavesStep (s : Around) (old : Masses) (rs : List Patch) (before after : Option Register) (kept : Option KeptLayout) : Type 0 where
  pub masses : masses_in rs ≡ updated (masses_in s.whole) (own_fluxes s old)
  pub count : length (totals_in kept) ≡ 2 + 2 * length s.cells
  pub few : length (totals_in kept) < 2 ^ 32
  pub small : (word : ℕ) → word < length (totals_in kept) → slice_index (totals_in kept) word < 2 ^ 63
  pub totals : HasTotals s.problem s.level (masses_in s.whole) old s.finer s.cells (totals_in kept)
  pub there : IfSome kept HasFirstTotals
  pub register : BothChange (taken s.problem s.level (masses_in s.whole) old s.finer) before after

-- ---- a step of a level

-- what makes a step of one: the problem, its number, the level, the next coarser one with the masses before its own step, and the next finer one
pub record LevelStep : Type 0 where
  pub problem : Problem
  pub number : ℕ
  pub level : Held
  pub coarser : Option Held
  pub finer : Option Held

abbrev pub step_of : Problem → ℕ → Held → Option Held → Option Held → LevelStep
step_of p l level coarser finer = record { problem = p; number = l; level = level; coarser = coarser; finer = finer }

-- the masses before it: of the level
abbrev pub own_before : LevelStep → Masses
own_before s = (level_of s.level).masses

-- and of the next coarser one, none above level 0
abbrev pub coarser_before : LevelStep → Masses
coarser_before s = old_masses s.coarser

-- the level's own fluxes
abbrev pub fluxes_of : LevelStep → Fluxes
fluxes_of s = flux_at s.problem s.number (own_before s) (coarser_before s)

-- what flows in by them through open sides, beside cells that the finer level doesn't cover
abbrev pub inflow_of : LevelStep → ℕ
inflow_of s = inflow_beside s.problem s.number (is_uncovered (own_before s) (finer_masses s.finer)) (fluxes_of s)

-- and out
abbrev pub outflow_of : LevelStep → ℕ
outflow_of s = outflow_beside s.problem s.number (is_uncovered (own_before s) (finer_masses s.finer)) (fluxes_of s)

-- it may be made: the level is one of the problem's, its fluxes fit, the registers are those over it and below it, with room for what
-- flows, and so are the sums
pub record MayAdvance (s : LevelStep) (regs : Regs) : Type 0 where
  pub number : s.number ≤ 4
  pub of_domain : IsLevel s.problem s.number (level_of s.level)
  pub fits : LevelStepFits s.problem s.number (own_before s) (coarser_before s)
  pub coarser : HasCoarser s.problem s.number (level_of s.level) s.coarser regs.coarser
  pub finer : HasFiner s.problem s.number (level_of s.level) s.finer regs.finer
  pub edges : IfSome regs.finer (HasEdgesOf (map box (patches_of s.level)))
  pub inflow : regs.inflow + inflow_of s < 2 ^ 63
  pub outflow : regs.outflow + outflow_of s < 2 ^ 63

-- it was made: each cell has what flows in through its faces, the coarser level's register what flows through the level's faces beside its
-- cells, that over the finer level has lost the level's own flows through its edges, and the sums have what flows through open sides
pub record HasAdvanced (s : LevelStep) (before : Regs) (now : Held) (after : Regs) : Type 0 where
  pub masses : (level_of now).masses ≡ updated (own_before s) (fluxes_of s)
  pub boxes : (level_of now).boxes ≡ (level_of s.level).boxes
  pub patches : map box (patches_of now) ≡ map box (patches_of s.level)
  pub coarser : BothChange (gained s.problem s.number (own_before s) (fluxes_of s)) before.coarser after.coarser
  pub finer : BothChange (taken s.problem s.number (own_before s) (coarser_before s) (finer_masses s.finer)) before.finer after.finer
  pub inflow : after.inflow ≡ before.inflow + inflow_of s
  pub outflow : after.outflow ≡ before.outflow + outflow_of s

-- it was not: the level has its masses of before, and the registers and sums what they had
pub record HasNotAdvanced (s : LevelStep) (before : Regs) (now : Held) (after : Regs) : Type 0 where
  pub masses : (level_of now).masses ≡ own_before s
  pub boxes : (level_of now).boxes ≡ (level_of s.level).boxes
  pub patches : map box (patches_of now) ≡ map box (patches_of s.level)
  pub coarser : after.coarser ≡ before.coarser
  pub finer : BothChange (λ c. pos 0) before.finer after.finer
  pub inflow : after.inflow ≡ before.inflow
  pub outflow : after.outflow ≡ before.outflow
