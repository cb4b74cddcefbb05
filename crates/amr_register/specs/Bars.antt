-- Bars: cells of one row, one after the other. Lists of them, and stretches of a row that a look-up finds.
use Rattle.std.specs.Prelude.{◌≡◌, Bool, ◌≤ℤ◌, List, IsTrue}
use Rattle.std.specs.declared.option.Option.{Option}
use Rattle.std.specs.declared.option.Option.TheVariants.{None, Some}
use Rattle.std.specs.List.{All}
use Rattle.amr_box.specs.declared.Cell.{Cell}
use Rattle.amr_box.specs.Cells.{Extent, holds}
use Rattle.amr_patch.specs.Patches.{ArePairwiseApart}
use Rattle.amr_patch.specs.Orders.{AreBoxesInRows}
use Rattle.amr_register.specs.declared.bars.Stretch.{Stretch}

-- a box one row high
pub record IsBar (b : Extent) : Type 0 where
  pub of_row : b.hi.y ≡ b.lo.y
  pub wide : b.lo.x ≤ℤ b.hi.x

-- bars row by row, within a row by column, no two with a cell in common
pub record AreBars (rs : List Extent) : Type 0 where
  pub each : All IsBar rs
  pub apart : ArePairwiseApart rs
  pub in_rows : AreBoxesInRows rs

-- a stretch, where one is known: all its cells pass a test, or none of them does
abbrev pub IsStretch : (Cell → Bool) → Option Stretch → Type 0
IsStretch test None = Unit {0}
IsStretch test (Some s) = (c : Cell) → IsTrue (holds s.cells c) → test c ≡ s.covered
