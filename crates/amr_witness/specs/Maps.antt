-- States as ordered maps: what state one has.
use Rattle.std.specs.Prelude.{ℕ, List, map}
use Rattle.std.specs.declared.option.Option.{Option}
use Rattle.std.specs.declared.option.Option.TheVariants.{None, Some}
use Rattle.std.specs.BTreeMap.{BTreeMap, get}
use Rattle.std.specs.Borrow.{Bor}
use Rattle.amr_box.specs.declared.Cell.{Cell}
use Rattle.amr_box.specs.Cells.{Extent, cell_cmp}
use Rattle.amr_def.specs.State.{Masses, Level, State, no_masses}
use Rattle.amr_witness.specs.declared.PlainLevel.{PlainLevel}
use Rattle.amr_witness.specs.declared.Plain.{Plain}

abbrev pub masses_of : BTreeMap Cell ℕ → Masses
masses_of m c = get cell_cmp m c

-- of the next coarser level, where there is one
abbrev pub old_of : Option (Bor (BTreeMap Cell ℕ)) → Masses
old_of None = no_masses
old_of (Some m) = masses_of m.now

abbrev pub level_of : PlainLevel → Level
level_of k = record { boxes = k.boxes.items; masses = masses_of k.masses }

abbrev pub levels_of : List PlainLevel → List Level
levels_of = map level_of

abbrev pub masses_in : List PlainLevel → List Masses
masses_in = map (λ k. masses_of k.masses)

abbrev pub boxes_in : List PlainLevel → List (List Extent)
boxes_in = map (λ k. k.boxes.items)

abbrev pub state_of : Plain → State
state_of s = record { step = s.step; rows = s.rows.items; levels = levels_of s.levels.items }
