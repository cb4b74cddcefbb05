-- Sizes of domains.
use Rattle.std.proofs.Common.{ℕ, ◌*◌, ◌^◌, ◌≤◌, arith}
use Rattle.std.proofs.lemmas.Nat.{mul-le}
use Rattle.amr_def.proofs.Courants.{power_some}

pub two_doubled : (n l : ℕ) → 2 ≤ n → l ≤ 4 → 2 ≤ n * 2 ^ l
two_doubled n l h k = mul-le 2 1 n (2 ^ l) h (power_some l k)
