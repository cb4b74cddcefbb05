-- Cells beside covered ones.
use Rattle.std.specs.Prelude.{◌≡◌, ℕ, ◌<◌, Bool, ◌&&◌, not, pos, negsuc, ◌+ℤ◌, ◌-ℤ◌, ◌≤ℤ◌, List, length, slice_index_or}
use Rattle.amr_box.specs.declared.Cell.{Cell}
use Rattle.amr_box.specs.Cells.{cell}
use Rattle.amr_def.specs.Domain.{Domain, home_cell, in_domain}
use Rattle.amr_register.specs.declared.sides.CoveredSides.{CoveredSides}
use Rattle.amr_register.specs.declared.sides.Stretches.{Stretches}
use Rattle.amr_register.specs.RegisterCells.{has_neighbour_where}
use Rattle.amr_register.specs.declared.belts.Belt.{Belt}
use Rattle.amr_register.specs.Belts.{is_in_belt}
use Rattle.amr_register.specs.Bars.{IsStretch}

-- a cell of the domain that is not covered, beside one that is
unfoldable pub stands_beside : Domain → (Cell → Bool) → Cell → Bool
stands_beside d covered c = in_domain d c && (not (covered c) && has_neighbour_where d covered c)

-- the same, of a belt of rows
unfoldable pub stands_in : Belt → Domain → (Cell → Bool) → Cell → Bool
stands_in s d covered c = is_in_belt s c && stands_beside d covered c

-- as far as domains reach, which have at most 4096 columns and rows
pub record IsDomainCell (c : Cell) : Type 0 where
  pub west : pos 0 ≤ℤ c.x
  pub east : c.x ≤ℤ pos 4095
  pub south : pos 0 ≤ℤ c.y
  pub north : c.y ≤ℤ pos 4095

-- and one cell farther
pub record IsBesideDomain (c : Cell) : Type 0 where
  pub west : negsuc 0 ≤ℤ c.x
  pub east : c.x ≤ℤ pos 4096
  pub south : negsuc 0 ≤ℤ c.y
  pub north : c.y ≤ℤ pos 4096

-- these are the sides where a covered cell lies beside the cell
pub record HasSides (d : Domain) (covered : Cell → Bool) (c : Cell) (s : CoveredSides) : Type 0 where
  pub west : s.west ≡ covered (home_cell d (cell (c.x -ℤ pos 1) c.y))
  pub east : s.east ≡ covered (home_cell d (cell (c.x +ℤ pos 1) c.y))
  pub south : s.south ≡ covered (home_cell d (cell c.x (c.y -ℤ pos 1)))
  pub north : s.north ≡ covered (home_cell d (cell c.x (c.y +ℤ pos 1)))

-- cell by cell
abbrev pub HaveSides : Domain → (Cell → Bool) → List Cell → List CoveredSides → Type 0
HaveSides d covered cs ss = (k : ℕ) (c : Cell) (s : CoveredSides) → k < length cs → HasSides d covered (slice_index_or cs k c) (slice_index_or ss k s)

-- the stretches that were found last on each side, where one was
pub record AreStretches (covered : Cell → Bool) (s : Stretches) : Type 0 where
  pub west : IsStretch covered s.west
  pub east : IsStretch covered s.east
  pub south : IsStretch covered s.south
  pub north : IsStretch covered s.north
