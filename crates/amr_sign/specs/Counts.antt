-- Counts of the places that pass a test.
use Rattle.std.specs.Prelude.{ℕ, Bool, cond}
use Rattle.std.specs.List.{count_by, range_with_len}

abbrev pub bit : Bool → ℕ
bit t = cond t 1 0

-- how many of the numbers 0 to n - 1 pass a test
abbrev pub count_to : (ℕ → Bool) → ℕ → ℕ
count_to test n = count_by test (range_with_len 0 n)
