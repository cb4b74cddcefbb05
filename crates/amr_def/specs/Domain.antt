-- The domain of a level: a rectangle of cells from (0, 0) whose axes are periodic or open.
use Rattle.std.specs.Prelude.{ℕ, ◌*◌, ◌/◌, ◌^◌, Bool, true, false, ◌&&◌, ℤ, pos, ◌+ℤ◌, ◌-ℤ◌, ◌*ℤ◌, int_le, int_lt, List}
use Rattle.std.specs.List.{filter, list_any}
use Rattle.std.specs.Int.{int_rem_euclid}
use Rattle.amr_box.specs.declared.Cell.{Cell}
use Rattle.amr_box.specs.Cells.{cell, extent, Extent, cells_of, moved, square}
use Rattle.amr_def.specs.declared.problem.Problem.{Problem}
use Rattle.amr_def.specs.declared.problem.Sides.{Sides}
use Rattle.amr_def.specs.declared.problem.Sides.TheVariants.{Periodic, Open}
use Rattle.amr_def.specs.declared.domain.Dom.{Dom}

-- how many columns and rows, and which axes are periodic
pub record Domain : Type 0 where
  pub columns : ℕ
  pub rows : ℕ
  pub wrap_x : Bool
  pub wrap_y : Bool

-- how many columns and rows a level has: twice those of the next coarser one (Berger and Colella)
abbrev pub columns : Problem → ℕ → ℕ
columns p l = p.nx * 2 ^ l

abbrev pub rows : Problem → ℕ → ℕ
rows p l = p.ny * 2 ^ l

abbrev pub is_periodic : Sides → Bool
is_periodic Periodic = true
is_periodic (Open low high) = false

abbrev pub domain : Problem → ℕ → Domain
domain p l = record { columns = columns p l; rows = rows p l; wrap_x = is_periodic p.x_sides; wrap_y = is_periodic p.y_sides }

-- the same, as calls are handed it
abbrev pub domain_of : Dom → Domain
domain_of d = record { columns = d.nx * 2 ^ d.l; rows = d.ny * 2 ^ d.l; wrap_x = d.wrap_x; wrap_y = d.wrap_y }

-- ---- its cells

-- a coordinate, on a periodic axis taken modulo the number of cells
abbrev pub wrapped : Bool → ℕ → ℤ → ℤ
wrapped true n z = int_rem_euclid z (pos n)
wrapped false n z = z

-- the cell that a cell stands for
abbrev pub home_cell : Domain → Cell → Cell
home_cell d c = cell (wrapped d.wrap_x d.columns c.x) (wrapped d.wrap_y d.rows c.y)

-- whether a coordinate is one of n cells
abbrev pub is_inside : ℕ → ℤ → Bool
is_inside n z = int_le (pos 0) z && int_lt z (pos n)

-- whether a cell is one of the domain
unfoldable pub in_domain : Domain → Cell → Bool
in_domain d c = is_inside d.columns c.x && is_inside d.rows c.y

-- the domain as a box (BoxLib)
abbrev pub domain_box : Domain → Extent
domain_box d = extent (cell (pos 0) (pos 0)) (cell (pos d.columns -ℤ pos 1) (pos d.rows -ℤ pos 1))

-- the cells that pass a test, row by row
abbrev pub cells_where : Domain → (Cell → Bool) → List Cell
cells_where d test = filter test (cells_of (domain_box d))

-- ---- what lies near a cell

-- whether a cell that passes a test is at most n away on both axes, past the end of a periodic axis too
abbrev pub is_near : Domain → ℕ → (Cell → Bool) → Cell → Bool
is_near d n test c = list_any (λ o. test (home_cell d (moved c o))) (square n)

-- ---- cells of n by n

-- the box of the finer cells, where each side of a cell is cut into n (BoxLib: refine)
abbrev pub refined : ℕ → Extent → Extent
refined n b =
    extent (cell (pos n *ℤ b.lo.x) (pos n *ℤ b.lo.y)) (cell (pos n *ℤ b.hi.x +ℤ (pos n -ℤ pos 1)) (pos n *ℤ b.hi.y +ℤ (pos n -ℤ pos 1)))

-- the domain in blocks of n by n cells
abbrev pub in_blocks : ℕ → Domain → Domain
in_blocks n d = record { columns = d.columns / n; rows = d.rows / n; wrap_x = d.wrap_x; wrap_y = d.wrap_y }

-- whether one of the n by n cells of a block passes a test
abbrev pub has_cell_where : ℕ → (Cell → Bool) → Cell → Bool
has_cell_where n test c = list_any test (cells_of (refined n (extent c c)))
