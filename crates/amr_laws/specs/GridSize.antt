-- A problem with another greatest size of a patch.
use Rattle.std.specs.Prelude.{ℕ}
use Rattle.amr_def.specs.declared.problem.Problem.{Problem}
use Rattle.amr_def.specs.Limits.{Limits}

-- the limits of the problem with that size
abbrev pub AreLimits : Problem → ℕ → Type 0
AreLimits p n =
    Limits p.version p.name p.nx p.ny p.steps p.cx p.cy p.d p.shear_x p.shear_y p.x_sides p.y_sides p.max_level p.tag p.n_error_buf p.efficiency p.min_width
    p.regrid_int p.blocking n p.blocks p.species

abbrev pub with_grid_size : (p : Problem) (n : ℕ) → AreLimits p n → Problem
with_grid_size p n limits = record p { max_grid_size = n; limits = limits }
