-- Stretches of places that pass a test, by the places where they begin and those after their ends.
use Rattle.std.specs.Prelude.{ℕ, zero, suc, ◌+◌, ◌-◌, Bool, false, ◌&&◌, not, nat_le, List}
use Rattle.amr_sign.specs.Words.{row_bit}

-- whether the place before one passes
abbrev pub preceding : (ℕ → Bool) → ℕ → Bool
preceding p zero = false
preceding p (suc x) = p x

-- whether a stretch begins at a place
abbrev pub begins : (ℕ → Bool) → ℕ → Bool
begins p x = p x && not (preceding p x)

-- whether a stretch has its end just before a place
abbrev pub ends : (ℕ → Bool) → ℕ → Bool
ends p x = preceding p x && not (p x)

-- whether bit x of a row is 1, from place `low` to place `high` alone
abbrev pub in_span : List ℕ → ℕ → ℕ → ℕ → Bool
in_span row low high x = (nat_le low x && nat_le x high) && row_bit row x

-- how many stretches are open before place i, where `begun i` begin at a place i and `ended i` have their end before it
abbrev pub open_stretches : (ℕ → ℕ) → (ℕ → ℕ) → ℕ → ℕ
open_stretches begun ended zero = 0
open_stretches begun ended (suc i) = (open_stretches begun ended i - ended i) + begun i
