-- The faces at the high side of a box.
use Rattle.std.proofs.Common.{◌≡◌, ℕ, false, pos, ◌+ℤ◌, ◌≤ℤ◌, arith}
use Rattle.std.proofs.lemmas.Int.{ints}
use Rattle.std.proofs.lemmas.Bool.{false_from_ne_true}
use Rattle.amr_box.specs.Cells.{Extent, holds}
use Rattle.amr_def.specs.Flux.{high_cell}
use Rattle.amr_patch.proofs.Rows.{inside}
use Rattle.amr_faces.specs.Faces.{x_end, y_end}

-- no cell of the box is at the high side of such a face
pub x_end-out : (b : Extent) (j : ℕ) → holds b (high_cell (x_end b j)) ≡ false
x_end-out b j = false_from_ne_true (holds b (high_cell (x_end b j))) (λ h. let k = inside b (high_cell (x_end b j)) h in let east : (b.hi.x +ℤ pos 1) ≤ℤ b.hi.x = k.east in absurd (omega (arith, ints, east)))

pub y_end-out : (b : Extent) (i : ℕ) → holds b (high_cell (y_end b i)) ≡ false
y_end-out b i = false_from_ne_true (holds b (high_cell (y_end b i))) (λ h. let k = inside b (high_cell (y_end b i)) h in let north : (b.hi.y +ℤ pos 1) ≤ℤ b.hi.y = k.north in absurd (omega (arith, ints, north)))
