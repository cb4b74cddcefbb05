-- Sizes of the domains of levels.
use Rattle.std.proofs.Common.{ℕ, zero, suc, ◌^◌, ◌≤◌, arith}

pub four_small : (l : ℕ) → l ≤ 4 → 4 ^ l ≤ 256
four_small zero h = omega arith
four_small (suc zero) h = omega arith
four_small (suc (suc zero)) h = omega arith
four_small (suc (suc (suc zero))) h = omega arith
four_small (suc (suc (suc (suc zero)))) h = omega arith
four_small (suc (suc (suc (suc (suc l))))) h = absurd (omega arith)
