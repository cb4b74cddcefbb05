-- Bytes that are counted and not kept. (profile)
use Rattle.std.specs.Prelude.{ℕ, ◌≡◌, ◌+◌, ◌-◌, ◌^◌, ◌<◌, min, List, length}

-- a count of 64 bits, which goes no further than its last value
abbrev pub capped : ℕ → ℕ
capped n = min n (2 ^ 64 - 1)

-- the bytes of a text were counted
abbrev pub Counts : ℕ → ℕ → List ℕ → Type 0
Counts old new text = old < 2 ^ 64 → new ≡ capped (old + length text)
