-- The share of a cell's mass that flows out of it in a step.
use Rattle.std.specs.Prelude.{◌≡◌, ℕ, ◌+◌, ◌-◌, ◌*◌, ◌/◌, ◌^◌, ◌<◌, ◌≤◌, ℤ, ◌-ℤ◌, pos, negsuc, neg_ℤ, unsigned_abs, List, length, slice_index}
use Rattle.amr_def.specs.Flux.{flow}

-- the size of the flow out of a cell of mass v at Courant number c/d (donor cell)
abbrev pub share_of : ℤ → ℕ → ℕ → ℕ
share_of c d v = unsigned_abs c * v / d

-- a number of this size, and of the sign of c
abbrev pub signed : ℤ → ℕ → ℤ
signed (pos a) n = pos n
signed (negsuc a) n = neg_ℤ (pos n)

-- |c|/d with 41 places after the binary point, rounded up: the first 31 are `whole`, the other ten `rest`
pub record IsReciprocal (c : ℤ) (d whole rest : ℕ) : Type 0 where
  pub few : d ≤ 1024
  pub whole_places : whole ≤ 2 ^ 31
  pub rest_places : rest < 1024
  pub places : whole * 1024 + rest ≡ (unsigned_abs c * 2 ^ 41 + (d - 1)) / d

-- |c|/d with 31 places, rounded up, and a limit below which the product with a mass errs by less than 1
pub record IsNearReciprocal (c : ℤ) (d near limit : ℕ) : Type 0 where
  pub fits : near ≤ 2 ^ 31
  pub up : unsigned_abs c * 2 ^ 31 ≤ near * d
  pub error : limit * (near * d - unsigned_abs c * 2 ^ 31) ≤ 2 ^ 31

-- a mass times a number with 31 places, rounded down
abbrev pub product : ℕ → ℕ → ℕ
product places v = (v + v) * places / 2 ^ 32

-- the flux at Courant number c/d between two masses below a limit is a product of each, and one of the two is 0
pub record AreFactors (c : ℤ) (d limit low high : ℕ) : Type 0 where
  pub low_fits : low ≤ 2 ^ 31
  pub high_fits : high ≤ 2 ^ 31
  pub flows : (a b : ℕ) → a < limit → b < limit → pos (product low a) -ℤ pos (product high b) ≡ flow c d a b

-- all below a limit
pub record AreBelow (limit : ℕ) (values : List ℕ) : Type 0 where
  pub at : (k : ℕ) → k < length values → slice_index values k < limit

-- none of 2^31 or more
abbrev pub AreSmall : List ℕ → Type 0
AreSmall values = AreBelow (2 ^ 31) values
