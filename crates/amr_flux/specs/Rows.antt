-- Rows of fluxes beside a row of masses.
use Rattle.std.specs.Prelude.{ℕ, ◌+◌, ◌^◌, ◌<◌, ℤ, pos, negsuc, ◌+ℤ◌, ◌-ℤ◌, ◌<ℤ◌, List, length, slice_index_or}

-- of a size below 2^31
pub record IsSmallFlow (z : ℤ) : Type 0 where
  pub low : negsuc 2147483647 <ℤ z
  pub high : z <ℤ pos (2 ^ 31)

pub record AreSmallFlows (fluxes : List ℤ) : Type 0 where
  pub at : (k : ℕ) → k < length fluxes → IsSmallFlow (slice_index_or fluxes k (pos 0))

-- what comes into cell k of a row, by the fluxes of the row's x faces and of the y faces at its low and high side
abbrev pub net_in_row : List ℤ → List ℤ → List ℤ → ℕ → ℤ
net_in_row x low high k =
    (slice_index_or x k (pos 0) -ℤ slice_index_or x (k + 1) (pos 0)) +ℤ (slice_index_or low k (pos 0) -ℤ slice_index_or high k (pos 0))
