-- Sizes of domains, and powers of four.
use Rattle.std.proofs.Common.{ℕ, zero, suc, ◌*◌, ◌^◌, ◌≤◌, ◌<◌, arith}
use Rattle.std.proofs.Common.{◌≡◌, pos}
use Rattle.std.proofs.lemmas.Int.{ints}
use mir.Val.{to_z}
use mir.Syntax.{w32}
use Rattle.amr_box.specs.Cells.{cell}
use Rattle.amr_def.proofs.Sizes.{doubled_small}
use Rattle.amr_def.proofs.Courants.{power_positive}

pub level_some : (n l : ℕ) → 2 ≤ n → 0 < n * 2 ^ l
level_some n l h = power_positive n l (omega arith)

pub ruleset sizes = (doubled_small, level_some)

pub power_of_four_low : (l : ℕ) → l ≤ 5 → 0 < 4 ^ l
power_of_four_low zero k = omega arith
power_of_four_low (suc zero) k = omega arith
power_of_four_low (suc (suc zero)) k = omega arith
power_of_four_low (suc (suc (suc zero))) k = omega arith
power_of_four_low (suc (suc (suc (suc zero)))) k = omega arith
power_of_four_low (suc (suc (suc (suc (suc zero))))) k = omega arith
power_of_four_low (suc (suc (suc (suc (suc (suc l)))))) k = absurd (omega arith)

pub power_of_four_high : (l : ℕ) → l ≤ 5 → 4 ^ l ≤ 1024
power_of_four_high zero k = omega arith
power_of_four_high (suc zero) k = omega arith
power_of_four_high (suc (suc zero)) k = omega arith
power_of_four_high (suc (suc (suc zero))) k = omega arith
power_of_four_high (suc (suc (suc (suc zero)))) k = omega arith
power_of_four_high (suc (suc (suc (suc (suc zero))))) k = omega arith
power_of_four_high (suc (suc (suc (suc (suc (suc l)))))) k = absurd (omega arith)

pub ruleset powers_of_four = (power_of_four_low, power_of_four_high)

-- a column or a row, cast to a signed coordinate
pub cell_of : (x y : ℕ) → x < 4096 → y < 4096 → cell (to_z w32 x) (to_z w32 y) ≡ cell (pos x) (pos y)
cell_of x y h k =
    let cx : to_z w32 x ≡ pos x = omega (arith, ints) in
    let cy : to_z w32 y ≡ pos y = omega (arith, ints) in
    λ i. record { x = cx i; y = cy i }
