-- Numbers of 32 bits with a sign.
use Rattle.std.proofs.Common.{◌≡◌, ◌-ℤ◌, ℕ, ◌*◌, ◌/◌, ◌<◌, ◌≤◌, ℤ, pos, negsuc, ◌≤ℤ◌, ◌<ℤ◌, ◌^◌, arith}
use Rattle.std.specs.Prelude.{unsigned_abs}
use Rattle.std.proofs.lemmas.Int.{ints}
use Rattle.amr_faces.specs.Shares.{share_of}
use Rattle.amr_faces.proofs.Reciprocals.{share_within}
use Rattle.amr_flux.specs.Rows.{IsSmallFlow}
use mir.Val.{SFits}
use mir.Syntax.{w32}

pub record IsWord (z : ℤ) : Type 0 where
  pub low : negsuc 2147483647 ≤ℤ z
  pub high : z <ℤ pos (2 ^ 31)

pub word_of : (z : ℤ) → SFits w32 z → IsWord z
word_of (pos n) fits = record { low = omega (arith, ints); high = omega (arith, ints, fits.sfits) }
word_of (negsuc n) fits = record { low = omega (arith, ints, fits.sfits); high = omega (arith, ints) }

-- a share of a small mass is a small flow
pub share_small : (c : ℤ) (d v : ℕ) → unsigned_abs c ≤ d → v < 2 ^ 31 → IsSmallFlow (pos (share_of c d v))
share_small c d v slow small =
    let most : unsigned_abs c * v / d ≤ v = share_within c d v slow in
    record { low = omega (arith, ints); high = omega (arith, ints, most) }

-- the difference of two numbers below 2^31 is one of 32 bits
pub difference_small : (a b : ℕ) (z : ℤ) → a < 2 ^ 31 → b < 2 ^ 31 → z ≡ pos a -ℤ pos b → unsigned_abs z < 2147483648
difference_small a b (pos n) ha hb e = omega (arith, ints, e)
difference_small a b (negsuc n) ha hb e = omega (arith, ints, e)
