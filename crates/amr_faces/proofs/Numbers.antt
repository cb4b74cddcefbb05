-- Courant numbers of rows and columns.
use Rattle.std.proofs.Common.{◌≡◌, ℕ, ◌/◌, ◌^◌, ◌≤◌, [], pos, ap, arith}
use Rattle.std.specs.Prelude.{unsigned_abs}
use Rattle.amr_box.specs.Cells.{cell}
use Rattle.amr_def.specs.declared.problem.Problem.{Problem}
use Rattle.amr_def.specs.Flux.{number_for}
use Rattle.amr_def.proofs.Courants.{stable}
use Rattle.amr_faces.specs.Numbers.{x_number, y_number}

pub x_slow : (p : Problem) (l row : ℕ) → unsigned_abs (x_number p l row) ≤ p.d
x_slow p l row = omega (arith, (stable p).within l (cell (pos 0) (pos row)))

pub y_slow : (p : Problem) (l column : ℕ) → unsigned_abs (y_number p l column) ≤ p.d
y_slow p l column = omega (arith, (stable p).within l (cell (pos column) (pos 0)))

-- without numbers for each column, all columns have one
pub unsheared : (p : Problem) (l column : ℕ) → p.shear_y ≡ [] → y_number p l column ≡ p.cy
unsheared p l column e = ap (λ ss. number_for p.cy ss (column / 2 ^ l)) e

-- and the same of all rows
pub x_unsheared : (p : Problem) (l row : ℕ) → p.shear_x ≡ [] → x_number p l row ≡ p.cx
x_unsheared p l row e = ap (λ ss. number_for p.cx ss (row / 2 ^ l)) e

pub plain_x_slow : (p : Problem) → p.shear_x ≡ [] → unsigned_abs p.cx ≤ p.d
plain_x_slow p e = omega (arith, x_slow p 0 0, ap unsigned_abs (x_unsheared p 0 0 e))
