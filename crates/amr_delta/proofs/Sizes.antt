-- A record is not too long for a store.
use Rattle.std.proofs.Common.{ℕ, zero, suc, ◌+◌, ◌*◌, ◌^◌, ◌<◌, ◌≤◌, arith}
use Rattle.std.proofs.lemmas.Nat.{mul-le}
use Rattle.amr_def.specs.declared.problem.Problem.{Problem}
use Rattle.amr_def.specs.Ledger.{sum_to}
use Rattle.amr_payload.specs.Payload.{level_cells}
use Rattle.amr_payload.specs.Delta.{delta_size}
use Rattle.amr_decoder.proofs.LevelReadings.{four_small}

sum_below : (f : ℕ → ℕ) (b n most : ℕ) → n ≤ most → ((k : ℕ) → k < most → f k ≤ b) → sum_to f n ≤ n * b
sum_below f b zero most few each = omega arith
sum_below f b (suc n) most few each = omega (arith, sum_below f b n most (omega arith) each, each n (omega arith))

level_room : (p : Problem) (l : ℕ) → l < 5 → 4 + (5 + 4) * level_cells p l ≤ 2 ^ 28
level_room p l small = omega (arith, mul-le (p.nx * p.ny) (4 ^ l) 65536 256 (mul-le p.nx p.ny 256 256 p.limits.greatest_nx p.limits.greatest_ny) (four_small l (omega arith)))

pub size_small : (p : Problem) → delta_size p ≤ 2 ^ 40
unfolding delta_size
size_small p =
    let steps = p.limits.greatest_steps in
    let few = p.limits.greatest_max_level in
    omega (arith, sum_below (λ l. 4 + (5 + 4) * level_cells p l) (2 ^ 28) (p.max_level + 1) 5 (omega arith) (level_room p))
