-- Numbers one after another in a list of bytes.
use Rattle.std.specs.Prelude.{ℕ, ◌+◌, ◌*◌, ◌<◌, ◌≤◌, ◌⊎◌, List, drop, length, map}
use Rattle.std.specs.Int.{Width, byte_len, from_le_bytes}
use Rattle.std.specs.List.{range_with_len}

-- number i of numbers of w bits
abbrev pub number_at : Width → List ℕ → ℕ → ℕ
number_at w bytes i = from_le_bytes w (drop (byte_len w * i) bytes)

-- the first n
unfoldable pub numbers : Width → ℕ → List ℕ → List ℕ
numbers w n bytes = map (number_at w bytes) (range_with_len 0 n)

-- number i doesn't lie wholly inside the bytes, or is greater than the greatest mass
abbrev pub IsNoMass : Width → ℕ → List ℕ → ℕ → Type 0
IsNoMass w greatest bytes i = (length bytes < byte_len w * (i + 1)) ⊎ ((byte_len w * (i + 1) ≤ length bytes) × (greatest < number_at w bytes i))
