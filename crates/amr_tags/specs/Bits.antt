-- Rows of bits in words of 64: bit i of a row is bit i mod 64 of the row's word i div 64.
use Rattle.std.specs.Prelude.{◌≡◌, ℕ, ◌+◌, ◌*◌, ◌/◌, ◌%◌, ◌<◌, ◌≤◌, Bool, false, ◌&&◌, ◌==◌, nat_lt, List, length, slice_index}
use Rattle.std.specs.Int.{bit_at}

abbrev pub bit : ℕ → ℕ → Bool
bit n i = bit_at n i == 1

-- how many words hold a row of bits
abbrev pub words_for : ℕ → ℕ
words_for width = (width + 63) / 64

-- bit i of row j
abbrev pub bit_of : ℕ → List ℕ → ℕ → ℕ → Bool
bit_of per_row words i j = bit (slice_index words (j * per_row + i / 64)) (i % 64)

-- rows of bits of this width: so many words, and no bit beyond the width
pub record AreRows (width height : ℕ) (words : List ℕ) : Type 0 where
  pub count : length words ≡ height * words_for width
  pub unused : (i j : ℕ) → width ≤ i → i < 64 * words_for width → j < height → bit_of (words_for width) words i j ≡ false

-- bit i of row j of the rows, false where there is none
abbrev pub grid : ℕ → ℕ → List ℕ → ℕ → ℕ → Bool
grid width height words i j = nat_lt i width && nat_lt j height && bit_of (words_for width) words i j
