-- Bits grown by one place along an axis.
use Rattle.std.specs.Prelude.{◌≡◌, ℕ, zero, suc, ◌+◌, ◌*◌, ◌/◌, ◌-◌, ◌<◌, Bool, cond, ◌||◌, ◌&&◌, List, nat_lt}
use Rattle.amr_tags.specs.Bits.{bit_of, words_for}

-- whether the place before one passes a test, on an axis of n places: the last stands before the first where the axis wraps
abbrev pub before : Bool → ℕ → (ℕ → Bool) → ℕ → Bool
before wrap n p zero = wrap && p (n - 1)
before wrap n p (suc i) = p i

-- whether the place after one passes a test
abbrev pub after : Bool → ℕ → (ℕ → Bool) → ℕ → Bool
after wrap n p i = cond (nat_lt (i + 1) n) (p (i + 1)) (wrap && p 0)

-- whether a place or one beside it passes a test
abbrev pub beside : Bool → ℕ → (ℕ → Bool) → ℕ → Bool
beside wrap n p i = p i || (before wrap n p i || after wrap n p i)

-- bit i of row j with those beside it in its row
abbrev pub widened : Bool → ℕ → ℕ → List ℕ → ℕ → ℕ → Bool
widened wrap width per_row words i j = nat_lt i width && beside wrap width (λ k. bit_of per_row words k j) i

-- bit i of row j with those beside it in its column
abbrev pub heightened : Bool → ℕ → ℕ → List ℕ → ℕ → ℕ → Bool
heightened wrap height per_row words i j = beside wrap height (λ k. bit_of per_row words i k) j

-- the bits that stand in the first m words are those of a test
abbrev pub AreBits : ℕ → List ℕ → (ℕ → ℕ → Bool) → ℕ → Type 0
AreBits per_row words test m = (i j : ℕ) → i / 64 < per_row → j * per_row + i / 64 < m → bit_of per_row words i j ≡ test i j

-- bit i of row j with the eight round it
abbrev pub grown_bit : Bool → Bool → ℕ → ℕ → List ℕ → ℕ → ℕ → Bool
grown_bit wrap_x wrap_y width height words i j = beside wrap_y height (λ r. beside wrap_x width (λ k. bit_of (words_for width) words k r) i) j
