-- Sizes of domains.
use Rattle.std.proofs.Common.{ℕ, zero, suc, ◌*◌, ◌^◌, ◌≤◌, arith}
use Rattle.std.proofs.lemmas.Nat.{mul-le}

power_small : (l : ℕ) → l ≤ 4 → 2 ^ l ≤ 16
power_small zero h = omega arith
power_small (suc zero) h = omega arith
power_small (suc (suc zero)) h = omega arith
power_small (suc (suc (suc zero))) h = omega arith
power_small (suc (suc (suc (suc zero)))) h = omega arith
power_small (suc (suc (suc (suc (suc l))))) h = absurd (omega arith)

pub doubled_small : (n l : ℕ) → n ≤ 256 → l ≤ 4 → n * 2 ^ l ≤ 4096
doubled_small n l h k = mul-le n (2 ^ l) 256 16 h (power_small l k)

pub ruleset sizes = (doubled_small)
