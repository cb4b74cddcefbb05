-- States: the step, the ledger and the levels, each with its boxes and the masses of their cells.
use Rattle.std.specs.Prelude.{ℕ, zero, suc, ◌+◌, Bool, List, [], slice_index_or, is_some}
use Rattle.std.specs.declared.option.Option.{Option}
use Rattle.std.specs.declared.option.Option.TheVariants.{None}
use Rattle.std.specs.Option.{unwrap_or}
use Rattle.amr_box.specs.declared.Cell.{Cell}
use Rattle.amr_box.specs.Cells.{child, has_child_where, Extent, in_boxes}
use Rattle.amr_def.specs.declared.problem.Row.{Row}

-- the masses of the cells of a level, none at a cell that is not of the level
abbrev pub Masses : Type 0
Masses = Cell → Option ℕ

abbrev pub no_masses : Masses
no_masses c = None

-- the mass of a cell, 0 where it is not of the level
abbrev pub mass_of : Masses → Cell → ℕ
mass_of m c = unwrap_or (m c) 0

-- a level of the mesh: its boxes, in order, and the masses of their cells (Berger and Colella: the grids of a level)
pub record Level : Type 0 where
  pub boxes : List Extent
  pub masses : Masses

pub record State : Type 0 where
  pub step : ℕ
  pub rows : List Row
  pub levels : List Level

abbrev pub no_level : Level
no_level = record { boxes = []; masses = no_masses }

abbrev pub level_at : State → ℕ → Level
level_at s l = slice_index_or s.levels l no_level

-- the masses of the next coarser level, none below level 0
abbrev pub masses_below : State → ℕ → Masses
masses_below s zero = no_masses
masses_below s (suc l) = (level_at s l).masses

-- whether boxes of the finer level cover a cell: it is the parent of one of their cells
abbrev pub is_covered_by : List Extent → Cell → Bool
is_covered_by bs = has_child_where (in_boxes bs)

-- ---- covered cells

-- whether a cell is covered: it is the parent of a cell of the finer level
unfoldable pub is_covered : Masses → Cell → Bool
is_covered fine = has_child_where (λ k. is_some (fine k))

-- the mass of the children
abbrev pub children_mass : Masses → Cell → ℕ
children_mass m c = mass_of m (child c 0) + mass_of m (child c 1) + mass_of m (child c 2) + mass_of m (child c 3)
