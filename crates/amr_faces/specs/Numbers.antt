-- The Courant numbers of the rows and columns of a level.
use Rattle.std.specs.Prelude.{ℕ, ◌/◌, ◌^◌, ℤ}
use Rattle.amr_def.specs.declared.problem.Problem.{Problem}
use Rattle.amr_def.specs.Flux.{number_for}

-- the Courant number of the x faces in a row of level l, and of the y faces in a column
abbrev pub x_number : Problem → ℕ → ℕ → ℤ
x_number p l row = number_for p.cx p.shear_x (row / 2 ^ l)

abbrev pub y_number : Problem → ℕ → ℕ → ℤ
y_number p l column = number_for p.cy p.shear_y (column / 2 ^ l)
