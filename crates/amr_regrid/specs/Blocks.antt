-- Blocks of cells, and where boxes of blocks lie.
use Rattle.std.specs.Prelude.{ℕ, pos, ◌≤ℤ◌}
use Rattle.amr_box.specs.Cells.{Extent}
use Rattle.amr_def.specs.declared.problem.Problem.{Problem}
use Rattle.amr_def.specs.Domain.{Domain, domain, in_blocks}
use Rattle.amr_def.specs.NewBoxes.{block_side}

-- a box whose corners lie from 0 to 4096
pub record IsLow (b : Extent) : Type 0 where
  pub west : pos 0 ≤ℤ b.lo.x
  pub east : b.hi.x ≤ℤ pos 4096
  pub south : pos 0 ≤ℤ b.lo.y
  pub north : b.hi.y ≤ℤ pos 4096

-- the domain of a level in blocks
abbrev pub blocks_of : Problem → ℕ → Domain
blocks_of p l = in_blocks (block_side p) (domain p l)
