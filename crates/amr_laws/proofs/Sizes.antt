-- Sizes of masses by their weight in cells of level 0, and of products.
use Rattle.std.proofs.Common.{◌≡◌, ℕ, zero, suc, ◌*◌, ◌^◌, ◌<◌, ◌≤◌, arith}
use Rattle.std.proofs.Math.Nat.{pow-suc}
use Rattle.std.proofs.lemmas.Nat.{mul-le}

pub weight_some : (l : ℕ) → 0 < 4 ^ l
weight_some zero = omega arith
weight_some (suc l) = let e : 4 ^ suc l ≡ 4 ^ l * 4 = pow-suc 4 l in omega (arith, e, weight_some l)

-- of a Courant number and a value
pub product_small : (n v : ℕ) → n ≤ 1024 → v < 2 ^ 31 → n * v < 2 ^ 42
product_small n v h k = let fits : n * v ≤ 1024 * 2147483647 = mul-le n v 1024 2147483647 h (omega (arith, k)) in omega (arith, fits)
