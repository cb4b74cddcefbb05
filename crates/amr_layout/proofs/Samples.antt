-- A cell that comes before another, by y, then by x, is another one.
use Rattle.std.proofs.Common.{◌≡◌, ◌≤ℤ◌, ◌<ℤ◌, IsTrue, ap, arith}
use Rattle.std.proofs.lemmas.Int.{ints}
use Rattle.amr_box.specs.declared.Cell.{Cell}
use Rattle.amr_box.specs.Cells.{is_same_cell}
use Rattle.amr_box.proofs.CellEquality.{coordinates_same}
use Rattle.amr_patch.specs.Orders.{comes_first}
use Rattle.amr_patch.proofs.Lookups.{comes_first-below, comes_first-yes}

pub before_by_row : (a b : Cell) → a.y <ℤ b.y → IsTrue (comes_first a b) × (IsTrue (is_same_cell a b) → ⊥)
before_by_row a b h = (comes_first-below a b h, λ e. let same : a.y ≡ b.y = ap (λ (k : Cell). k.y) (coordinates_same a b e) in absurd (omega (arith, ints, h, same)))

pub before_in_row : (a b : Cell) → a.y ≤ℤ b.y → a.x <ℤ b.x → IsTrue (comes_first a b) × (IsTrue (is_same_cell a b) → ⊥)
before_in_row a b h k = (comes_first-yes a b h (omega (arith, ints, k)), λ e. let same : a.x ≡ b.x = ap (λ (k : Cell). k.x) (coordinates_same a b e) in absurd (omega (arith, ints, k, same)))
