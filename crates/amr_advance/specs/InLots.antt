-- A step of patches by several lots: what it is made from, and what stands in the lots.
use Rattle.std.specs.Prelude.{◌≡◌, ◌≤◌, Bool, true, false, [], List, length, map, vec_capacity}
use Rattle.std.specs.declared.option.Option.{Option}
use Rattle.std.specs.Global.{Box, Vec}
use Rattle.std.specs.List.{AllZip}
use Rattle.atomic_table.specs.declared.shared.Seat.{Seat}
use Rattle.amr_board.specs.declared.view.View.{View}
use Rattle.amr_board.specs.BoardOf.{BoardOf}
use Rattle.amr_patch.specs.declared.patches.Patch.{Patch}
use Rattle.amr_patch.specs.Patches.{box}
use Rattle.amr_register.specs.declared.edges.EdgeCell.{EdgeCell}
use Rattle.amr_register.specs.EdgeCells.{lists_of}
use Rattle.amr_lots.specs.declared.lot.Duty.TheVariants.{Step}
use Rattle.amr_lots.specs.declared.lot.Lot.{Lot}
use Rattle.amr_lots.specs.declared.lot.Work.{Work}
use Rattle.amr_advance.specs.declared.level.StepInput.{StepInput}
use Rattle.amr_advance.specs.declared.lots.Lots.{Lots}
use Rattle.amr_advance.specs.Handed.{HaveBeenHanded}
use Rattle.amr_advance.specs.Lots.{is_one}
use Rattle.amr_advance.specs.Phases.{HasAsMany, HaveMadeStep, IsOpened}
use Rattle.amr_advance.specs.Registers.{AreEdgesFor}
use Rattle.amr_advance.specs.Steps.{CanMakeStep, MayMakeStep, around_of, coarser_masses}

-- several lots may make the step of patches ps, with lists es of register cells
pub record MayStepInLots (g : StepInput) (ps : List Patch) (es : List (Vec EdgeCell)) (t : Lots) : Type 0 where
  pub step : MayMakeStep g ps
  pub lots : CanMakeStep (around_of g ps) (coarser_masses g) t
  pub several : is_one t ≡ false
  pub edges : AreEdgesFor (map box ps) (lists_of es)

-- lots t were handed these, in place of which stand qs and ds, and are on this board, from which no task was drawn yet. u are t without them,
-- with room for them
pub record IsStepOpened (g : StepInput) (ps : List Patch) (es : List (Vec EdgeCell)) (t : Lots) (qs : List Patch) (ds : List (Vec EdgeCell)) (u : Lots)
    (board : BoardOf Work) (seat : Seat (Option Work) (View Work)) : Type 0 where
  pub may : MayStepInLots g ps es t
  pub handed : List (Box Lot)
  pub given : HaveBeenHanded t ps qs es ds handed
  pub opened : IsOpened g.basis.now g.level Step g.problem.now t.shape handed board seat
  pub room : length t.lots.items ≤ vec_capacity u.lots
  pub empty : u.lots.items ≡ []
  pub rest : u ≡ record t { lots = u.lots }

-- lots t were handed these, in place of which stand qs and ds. They are u now, and have made the step or have not
pub record StandInLots (g : StepInput) (was_made : Bool) (ps : List Patch) (es : List (Vec EdgeCell)) (t : Lots) (qs : List Patch) (ds : List (Vec EdgeCell)) (u : Lots) : Type 0 where
  pub may : MayStepInLots g ps es t
  pub handed : List (Box Lot)
  pub given : HaveBeenHanded t ps qs es ds handed
  pub as_many : AllZip HasAsMany handed u.lots.items
  pub made : was_made ≡ true → HaveMadeStep g.basis.now g.level handed t u
  pub unmade : was_made ≡ false → u.lots.items ≡ handed
  pub rest : u ≡ record t { lots = u.lots; totals = u.totals }
