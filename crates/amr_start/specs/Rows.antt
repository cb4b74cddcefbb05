-- Level 0 as one list of masses: row by row from low y, within a row from low x.
use Rattle.std.specs.Prelude.{◌≡◌, ℕ, ◌+◌, ◌*◌, ◌<◌, ◌≤◌, ◌^◌, cond, pos, ◌-ℤ◌, List, length, slice_index, unsigned_abs}
use Rattle.std.specs.declared.option.Option.TheVariants.{None, Some}
use Rattle.amr_box.specs.Cells.{Extent, cell, extent, holds}
use Rattle.amr_def.specs.declared.problem.Block.{Block}
use Rattle.amr_def.specs.declared.problem.Problem.{Problem}
use Rattle.amr_def.specs.Ledger.{sum_to}
use Rattle.amr_def.specs.Run.{block_extent, block_mass}
use Rattle.amr_def.specs.State.{Masses}

-- the cells of so many columns and rows from (0, 0), as a box
abbrev pub box_of : ℕ → ℕ → Extent
box_of columns rows = extent (cell (pos 0) (pos 0)) (cell (pos columns -ℤ pos 1) (pos rows -ℤ pos 1))

-- the masses that a list has of them
abbrev pub masses_on : ℕ → ℕ → List ℕ → Masses
masses_on columns rows ms c = cond (holds (box_of columns rows) c) (Some (slice_index ms (unsigned_abs c.y * columns + unsigned_abs c.x))) None

-- a block of cells of level 0
pub record IsBlockIn (columns rows : ℕ) (b : Block) : Type 0 where
  pub wide : b.x0 ≤ b.x1
  pub east : b.x1 < columns
  pub high : b.y0 ≤ b.y1
  pub north : b.y1 < rows
  pub mass : b.mass ≤ 2 ^ 30

-- a block has filled its cells, and every other cell has what it had
pub record FillsBlock (columns rows : ℕ) (b : Block) (old new : List ℕ) : Type 0 where
  pub at : (x y : ℕ) → x < columns → y < rows
      → slice_index new (y * columns + x) ≡ cond (holds (block_extent b) (cell (pos x) (pos y))) b.mass (slice_index old (y * columns + x))

-- the mass of a row
abbrev pub row_mass_in : ℕ → List ℕ → ℕ → ℕ
row_mass_in columns ms y = sum_to (λ x. slice_index ms (y * columns + x)) columns

-- a list of the masses at the start
pub record HasBlocks (p : Problem) (ms : List ℕ) : Type 0 where
  pub count : length ms ≡ p.ny * p.nx
  pub small : (k : ℕ) → slice_index ms k < 2 ^ 31
  pub at : (x y : ℕ) → x < p.nx → y < p.ny → slice_index ms (y * p.nx + x) ≡ block_mass p.blocks (cell (pos x) (pos y))
