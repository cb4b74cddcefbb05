-- What the layout of a level depends on: boxes, register cells, and which cells the finer level has. Masses are no part of it.
use Rattle.std.specs.Prelude.{◌≡◌, Bool, true, ◌||◌, not, map, is_some}
use Rattle.amr_box.specs.declared.Cell.{Cell}
use Rattle.amr_def.specs.declared.problem.Problem.{Problem}
use Rattle.amr_def.specs.Domain.{is_periodic}
use Rattle.amr_patch.specs.Patches.{box}
use Rattle.amr_layout.specs.Surroundings.{Around}

-- whether a side of the domain is open
abbrev pub has_open_side : Problem → Bool
has_open_side p = not (is_periodic p.x_sides) || not (is_periodic p.y_sides)

-- one level of one problem, twice: with the same boxes in the same order, the same register cells of the next coarser level,
-- and the same cells of the next finer one where a side of the domain is open. They tell who adds what flows there to the ledger,
-- and nothing else.
pub record SameGround (s t : Around) : Type 0 where
  pub problem : s.problem ≡ t.problem
  pub level : s.level ≡ t.level
  pub boxes : map box s.patches ≡ map box t.patches
  pub whole : map box s.whole ≡ map box t.whole
  pub filled : s.filled ≡ t.filled
  pub cells : s.cells ≡ t.cells
  pub finer : has_open_side s.problem ≡ true → (c : Cell) → is_some (s.finer c) ≡ is_some (t.finer c)
