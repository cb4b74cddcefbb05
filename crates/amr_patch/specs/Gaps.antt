-- Gaps between patches: boxes of cells that none of them has.
use Rattle.std.specs.Prelude.{◌≡◌, Bool, false, ℤ, ◌≤ℤ◌, List, Contains, IsTrue}
use Rattle.std.specs.declared.option.Option.{Option}
use Rattle.std.specs.declared.option.Option.TheVariants.{None, Some}
use Rattle.std.specs.List.{All, AllPairs}
use Rattle.amr_box.specs.declared.Cell.{Cell}
use Rattle.amr_box.specs.Cells.{Extent, holds}
use Rattle.amr_patch.specs.declared.patches.Patch.{Patch}
use Rattle.amr_patch.specs.Patches.{box, in_patches}
use Rattle.amr_patch.specs.declared.gaps.Starts.{Starts}

-- no patch has a cell of the box
abbrev pub IsGap : List Patch → Option Extent → Type 0
IsGap ps None = Unit {0}
IsGap ps (Some b) = (c : Cell) → IsTrue (holds b c) → in_patches ps c ≡ false

-- whether a cell lies in it
abbrev pub in_gap : Option Extent → Cell → Bool
in_gap None c = false
in_gap (Some b) c = holds b c

-- numbers in order
abbrev pub Ascends : List ℤ → Type 0
Ascends zs = AllPairs (λ a b. a ≤ℤ b) zs

-- the columns and the rows where patches start, in order
pub record HasStarts (ps : List Patch) (s : Starts) : Type 0 where
  pub columns : Ascends s.columns.items
  pub rows : Ascends s.rows.items
  pub each : All (λ q. Contains s.columns.items (box q).lo.x × Contains s.rows.items (box q).lo.y) ps
