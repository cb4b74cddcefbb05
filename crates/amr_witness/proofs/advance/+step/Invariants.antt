use Rattle.std.proofs.Common.{◌≡◌, ◌+◌, ◌*◌, length}
use Rattle.std.specs.declared.option.Option.TheVariants.{None}
use Rattle.std.specs.Map.{lookup}
use Rattle.std.specs.BTreeMap.{is_at}
use Rattle.amr_box.specs.declared.Cell.{Cell}
use Rattle.amr_box.specs.Cells.{cell_cmp}
use Rattle.amr_def.specs.Flux.{updated}
use Rattle.amr_def.specs.LevelStep.{step}
use Rattle.amr_def.specs.Ledger.{first_of}
use Rattle.amr_witness.specs.Maps.{masses_in, masses_of, old_of}
use Rattle.amr_witness.proofs.advance.+step.Given as goal

-- each call goes to one with fewer levels, or to a part of the work on as many
abbrev pub decreases-step_levels : goal.decreases-step_levels
decreases-step_levels l = 8 * length l.levels.now + 5

abbrev pub decreases-new_masses : goal.decreases-new_masses
decreases-new_masses l = 8 * length l.levels.now + 4

abbrev pub decreases-net : goal.decreases-net
decreases-net l = 8 * length l.levels.now + 3

abbrev pub decreases-flux : goal.decreases-flux
decreases-flux l = 8 * length l.levels.now + 2

abbrev pub decreases-through_both : goal.decreases-through_both
decreases-through_both l = 8 * length l.finer.now + 8

abbrev pub decreases-through_children : goal.decreases-through_children
decreases-through_children l = 8 * length l.finer.now + 6

-- a cell that is not left to be visited has its new mass
abbrev pub invariant-new_masses-loop-c : goal.invariant-new_masses-loop-c
invariant-new_masses-loop-c l = (q : Cell) → lookup (is_at (cell_cmp q)) l.c-iterator ≡ None → masses_of l.next q ≡ updated (first_of (masses_in l.levels)) (step l.p l.level (masses_in l.levels) (old_of l.old)).fluxes q
